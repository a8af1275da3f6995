-- How far the writing of the text has come.
use Rattle.std.proofs.Common.{◌≡◌, ℕ, ◌+◌, cond, Option, List, [], ◌∷◌, ◌++◌, length, sym, ap, ◌∙◌, subst, append-nil}
use Rattle.std.specs.List.{flat_map, count_by}
use Rattle.std.specs.Option.{is_some}
use Rattle.std.proofs.lemmas.List.Concat.{flat_map-append}
use Rattle.std.proofs.lemmas.List.Sums.{sum_by-append}
use Rattle.fg_io.specs.Sent.{Sent}
use Rattle.fg_io.specs.Sink.{GainsPart}
use Rattle.fg_io.proofs.SentLemmas.{Sent-part, Sent-start, Sent-stop, Sent-then}
use Rattle.fg_io.proofs.SinkLemmas.{GainsPart-front}
use Rattle.fg_encode.specs.Stream.{StreamEnding}
use Rattle.fg_monitor.specs.declared.continuity.Break.{Break}
use Rattle.fg_monitor.specs.declared.lines.Lines.{Lines}
use Rattle.fg_monitor.specs.Continuity.{IsToldOf}
use Rattle.fg_monitor.specs.Steps.{HasTold}
use Rattle.fg_monitor.specs.Text.{IsText, line_if}
use Rattle.fg_monitor.proofs.Texts.{none_told, told_more, text_of_front}

-- The sink has gained a prefix of the text of any stream that begins with these packets.
abbrev pub HasPart : List (List ℕ) → Option (List ℕ) → Option (List ℕ) → Type 0
HasPart packets before after =
    (later : List (List ℕ)) (ending : StreamEnding) (text : List ℕ) → IsText (packets ++ later) ending text → GainsPart before text after

pub nothing_told : (lines : Lines) (written : Option (List ℕ)) → lines.held ≡ [] → lines.faults ≡ 0 → HasTold [] lines written written
nothing_told lines written empty none = record {
  told = [];
  are = none_told;
  count = none;
  sent = subst (λ bytes. Sent written [] bytes written) (sym empty) (Sent-start written []);
}

lines_more : (told : List (Option Break)) (next : Option Break) → flat_map line_if (told ++ next ∷ []) ≡ flat_map line_if told ++ line_if next
lines_more told next = flat_map-append line_if told (next ∷ []) ∙ ap (λ (l : List ℕ). flat_map line_if told ++ l) (append-nil (line_if next))

pub tells_more :
    (packets : List (List ℕ)) (packet : List ℕ) (next : Option Break) (lines new : Lines) (before at after : Option (List ℕ))
    → HasTold packets lines before at → IsToldOf (packets ++ packet ∷ []) (length packets) next
    → Sent at (lines.held ++ line_if next) new.held after → new.faults ≡ lines.faults + count_by is_some (next ∷ [])
    → HasTold (packets ++ packet ∷ []) new before after
tells_more packets packet next lines new before at after h k sent faults = record {
  told = h.told ++ next ∷ [];
  are = told_more packets h.told packet next h.are k;
  count = faults ∙ ap (λ n. n + count_by is_some (next ∷ [])) h.count
      ∙ sym (sum_by-append (λ (t : Option Break). cond (is_some t) 1 0) h.told (next ∷ []));
  sent = subst (λ (text : List ℕ). Sent before text new.held after) (sym (lines_more h.told next))
      (Sent-then before at after (flat_map line_if h.told) lines.held (line_if next) new.held h.sent sent);
}

-- What a fault leaves

pub part_at_line :
    (packets : List (List ℕ)) (packet : List ℕ) (next : Option Break) (lines : Lines) (before at after : Option (List ℕ))
    → HasTold packets lines before at → IsToldOf (packets ++ packet ∷ []) (length packets) next
    → GainsPart at (lines.held ++ line_if next) after → HasPart (packets ++ packet ∷ []) before after
part_at_line packets packet next lines before at after h k part later ending text is =
    let told : List (Option Break) = h.told ++ next ∷ [] in
    GainsPart-front before after (flat_map line_if told) text
    (text_of_front (packets ++ packet ∷ []) later told ending text (told_more packets h.told packet next h.are k) is)
    (subst (λ (t : List ℕ). GainsPart before t after) (sym (lines_more h.told next))
    (Sent-part before at after (flat_map line_if h.told) lines.held (line_if next) h.sent part))

pub part_told :
    (packets : List (List ℕ)) (lines : Lines) (before at : Option (List ℕ)) → HasTold packets lines before at → HasPart packets before at
part_told packets lines before at h later ending text is =
    GainsPart-front before at (flat_map line_if h.told) text (text_of_front packets later h.told ending text h.are is)
    (subst (λ (t : List ℕ). GainsPart before t at) (append-nil (flat_map line_if h.told)) (Sent-stop before at (flat_map line_if h.told) lines.held [] h.sent))
