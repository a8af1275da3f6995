-- A record is its header and its datagram.
use Rattle.std.proofs.Common.{◌≡◌, ◌∙◌, ◌++◌, ℕ, List, Option, length, ap, subst, append_assoc}
use Rattle.std.proofs.lemmas.Result.{on_ok_weaker, on_err_weaker}
use Rattle.fg_io.specs.Sent.{Sent}
use Rattle.fg_io.specs.Sink.{GainsPart}
use Rattle.fg_io.proofs.SentLemmas.{Sent-part, Sent-then}
use Rattle.fg_io.proofs.SinkLemmas.{GainsPart-longer}
use Rattle.fg_trace.specs.Trace.{Record, header_spelling, spelling}
use Rattle.fg_io.proofs.FaultLemmas.{on_err}
use Rattle.fg_encode.proofs.encoding.add.Goals as goal

module _ (r : Record) (trace header : List ℕ) (is : header ≡ header_spelling r.time r.port (length r.datagram)) where
  whole : (trace ++ header) ++ r.datagram ≡ trace ++ spelling r
  whole = append_assoc trace header r.datagram ∙ ap (λ h. trace ++ (h ++ r.datagram)) is

  -- the header is not all written, for a fault
  in_header : (before after : Option (List ℕ)) → GainsPart before (trace ++ header) after → GainsPart before (trace ++ spelling r) after
  in_header before after part = subst (λ bytes. GainsPart before bytes after) whole (GainsPart-longer before after (trace ++ header) r.datagram part)

  -- the datagram is not
  in_datagram : (before at after : Option (List ℕ)) (held : List ℕ) → Sent before (trace ++ header) held at → GainsPart at (held ++ r.datagram) after
      → GainsPart before (trace ++ spelling r) after
  in_datagram before at after held once part =
      subst (λ bytes. GainsPart before bytes after) whole (Sent-part before at after (trace ++ header) held r.datagram once part)

  -- both are, or held
  both : (before at after : Option (List ℕ)) (held next : List ℕ) → Sent before (trace ++ header) held at → Sent at (held ++ r.datagram) next after
      → Sent before (trace ++ spelling r) next after
  both before at after held next once again =
      subst (λ bytes. Sent before bytes next after) whole (Sent-then before at after (trace ++ header) held r.datagram next once again)

pub returns-in_err-add-clause-part : goal.returns-in_err-add-clause-part
returns-in_err-add-clause-part g c =
    let r : Record = record { time = c.args.time; port = c.args.port; datagram = c.args.datagram.now } in
    on_err _ _ (in_header r c.args.trace.now c.record_header.result c.record_header.ensures _ _ c.in_err-add.ensures.part)

pub returns-clause-sent : goal.returns-clause-sent
returns-clause-sent g c =
    let r : Record = record { time = c.args.time; port = c.args.port; datagram = c.args.datagram.now } in
    on_ok_weaker _ (both r c.args.trace.now c.record_header.result c.record_header.ensures _ _ _ _ _ c.in_ok-add.ensures.sent) c.add-2.ensures.sent

pub returns-clause-part : goal.returns-clause-part
returns-clause-part g c =
    let r : Record = record { time = c.args.time; port = c.args.port; datagram = c.args.datagram.now } in
    on_err_weaker _ (in_datagram r c.args.trace.now c.record_header.result c.record_header.ensures _ _ _ _ c.in_ok-add.ensures.sent) c.add-2.ensures.part
