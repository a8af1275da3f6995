-- A record is its headers and its datagram.
use Rattle.std.proofs.Common.{◌≡◌, ◌∙◌, ◌++◌, ℕ, List, length, ap, append_assoc}
use Rattle.fg_io.proofs.FaultLemmas.{on_err}
use Rattle.fg_io.proofs.SentLemmas.{Sent-part, Sent-then}
use Rattle.fg_io.proofs.SinkLemmas.{GainsPart-longer}
use Rattle.fg_trace.specs.Trace.{Record}
use Rattle.fg_pcap.specs.Spelling.{headers, spelling}
use Rattle.fg_pcap.proofs.writer.Spelling.add.Goals as goal

whole : (r : Record) (text header : List ℕ) → header ≡ headers r.time r.port (length r.datagram) → (text ++ header) ++ r.datagram ≡ text ++ spelling r
whole r text header is = append_assoc text header r.datagram ∙ ap (λ h. text ++ (h ++ r.datagram)) is

-- the headers are not all written, for a fault
pub returns-in_err-add-clause-part : goal.returns-in_err-add-clause-part
returns-in_err-add-clause-part g c =
    let r : Record = record { time = c.args.time; port = c.args.port; datagram = c.args.datagram.now } in
    on_err _ _ (rw (whole r c.args.self.now.held c.headers.result c.headers.ensures) at (GainsPart-longer _ _ _ r.datagram c.in_err-add.ensures.part))

-- the datagram is not
pub returns-in_err-add-2-clause-part : goal.returns-in_err-add-2-clause-part
returns-in_err-add-2-clause-part g c =
    let r : Record = record { time = c.args.time; port = c.args.port; datagram = c.args.datagram.now } in
    on_err _ _ (rw (whole r c.args.self.now.held c.headers.result c.headers.ensures) at (Sent-part _ _ _ _ _ r.datagram c.in_ok-add.ensures.sent c.in_err-add-2.ensures.part))

-- both are, or held
pub returns-clause-sent : goal.returns-clause-sent
returns-clause-sent g c =
    let r : Record = record { time = c.args.time; port = c.args.port; datagram = c.args.datagram.now } in
    rw (whole r c.args.self.now.held c.headers.result c.headers.ensures) at (Sent-then _ _ _ _ _ r.datagram _ c.in_ok-add.ensures.sent c.in_ok-add-2.ensures.sent)
