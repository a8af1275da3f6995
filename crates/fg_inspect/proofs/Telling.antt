-- How far the writing of the text has come.
use Rattle.std.proofs.Common.{◌≡◌, ℕ, ◌+◌, Option, None, Some, List, refl, [], ◌∷◌, ◌++◌, length, sym, ap, ◌∙◌, subst, arith, length-append}
use Rattle.fg_io.specs.Sink.{Gains, GainsPart}
use Rattle.fg_io.specs.Sent.{Sent}
use Rattle.fg_io.proofs.SentLemmas.{Sent-cut, Sent-part, Sent-start, Sent-then, Sent-whole}
use Rattle.fg_io.proofs.SinkLemmas.{Gains-nil, GainsPart-front}
use Rattle.fg_trace.specs.Trace.{Record, Ending}
use Rattle.fg_walk.specs.Walk.{WalkedPart}
use Rattle.fg_inspect.specs.declared.lines.Lines.{Lines}
use Rattle.fg_inspect.specs.declared.reading.Reading.{Reading}
use Rattle.fg_inspect.specs.Inspect.{TellsPart}
use Rattle.fg_inspect.specs.Laws.{OneText, TextOfFront}
use Rattle.fg_inspect.specs.Reading.{IsReading}
use Rattle.fg_inspect.specs.Steps.{HasGained, HasPart, HasTold, IsNew}
use Rattle.fg_inspect.specs.Text.{line, line_of}
use Rattle.fg_inspect.proofs.Texts.{text_more, no_text}

-- What is told

pub told_none : (flows : List ℕ) (lines : Lines) (written : Option (List ℕ)) → IsNew flows lines → HasTold flows [] lines written written
told_none flows lines written h = record {
  table = h.table;
  text = [];
  is_text = no_text flows;
  number = h.number;
  sent = subst (λ bytes. Sent written [] bytes written) (sym h.empty) (Sent-start written []);
}

-- the line of the next record is that of its number
next_line : (records : List Record) (number size : ℕ) (r : Record) (x : Reading) → number ≡ length records → size ≡ length r.datagram → line number r.time r.port size x ≡ line_of (length records) r x
next_line records number size r x e s = ap (λ n. line n r.time r.port size x) e ∙ ap (λ n. line (length records) r.time r.port n x) s

pub told_more :
    (flows : List ℕ) (records : List Record) (lines next : Lines) (before at after : Option (List ℕ)) (r : Record) (size : ℕ) (x : Reading)
    → HasTold flows records lines before at → IsReading flows r.port r.datagram x → size ≡ length r.datagram
    → Sent at (lines.held ++ line lines.number r.time r.port size x) next.held after → next.number ≡ lines.number + 1
    → HasTold flows (records ++ r ∷ []) next before after
told_more flows records lines next before at after r size x h read sized sent number = record {
  table = h.table;
  text = h.text ++ line_of (length records) r x;
  is_text = text_more flows records h.text r x h.is_text read;
  number = let more : length (records ++ r ∷ []) ≡ length records + 1 = length-append records (r ∷ []) in omega (arith, number, h.number, more);
  sent = Sent-then before at after h.text lines.held (line_of (length records) r x) next.held h.sent
      (subst (λ bytes. Sent at (lines.held ++ bytes) next.held after) (next_line records lines.number size r x h.number sized) sent);
}

-- What a fault leaves

pub part_at_line :
    TextOfFront → (flows : List ℕ) (records : List Record) (lines : Lines) (before at after : Option (List ℕ)) (r : Record) (size : ℕ) (x : Reading)
    → HasTold flows records lines before at → IsReading flows r.port r.datagram x → size ≡ length r.datagram
    → GainsPart at (lines.held ++ line lines.number r.time r.port size x) after → (later : List Record) → HasPart flows ((records ++ r ∷ []) ++ later) before after
part_at_line law flows records lines before at after r size x h read sized part later text is =
    let front = h.text ++ line_of (length records) r x in
    GainsPart-front before after front text
    (law flows (records ++ r ∷ []) later front text h.table (text_more flows records h.text r x h.is_text read) is)
    (Sent-part before at after h.text lines.held (line_of (length records) r x) h.sent
    (subst (λ bytes. GainsPart at (lines.held ++ bytes) after) (next_line records lines.number size r x h.number sized) part))

pub part_told : TextOfFront → (flows : List ℕ) (records : List Record) (lines : Lines) (before after : Option (List ℕ)) → HasTold flows records lines before after → (later : List Record) → HasPart flows (records ++ later) before after
part_told law flows records lines before after h later text is =
    GainsPart-front before after h.text text (law flows records later h.text text h.table h.is_text is)
    (h.sent.front, (lines.held, h.sent.rest), h.sent.gained)

-- The end of the text

pub told_whole : (flows : List ℕ) (records : List Record) (end : Ending) (lines : Lines) (before at after : Option (List ℕ)) → HasTold flows records lines before at → Gains at lines.held after → HasGained flows records end before after
told_whole flows records end lines before at after h gained = record {
  text = h.text;
  is_text = h.is_text;
  gained = Sent-whole before at after h.text lines.held h.sent gained;
}

pub told_part : OneText → (flows : List ℕ) (records : List Record) (lines : Lines) (before at after : Option (List ℕ)) → HasTold flows records lines before at → GainsPart at lines.held after → HasPart flows records before after
told_part law flows records lines before at after h part text is =
    subst (λ t. GainsPart before t after) (law flows records h.text text h.table h.is_text is) (Sent-cut before at after h.text lines.held h.sent part)

-- Where nothing is written

pub gained_none : (flows : List ℕ) (end : Ending) (written : Option (List ℕ)) → HasGained flows [] end written written
gained_none flows end written = record { text = []; is_text = no_text flows; gained = Gains-nil written }

pub none_is_part : (flows : List ℕ) (records : List Record) (written : Option (List ℕ)) → HasPart flows records written written
none_is_part flows records written text is = ([], (text, refl), Gains-nil written)

-- What a call comes to

pub part_of : (flows : List ℕ) (max : ℕ) (input before after : Option (List ℕ)) → WalkedPart HasPart flows max input before after → TellsPart flows max input before after
part_of flows max None before after h = tt
part_of flows max (Some bytes) before after h = λ records end text trace is. h records end trace text is
