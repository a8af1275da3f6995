-- The text of packets: what one more packet adds, and that it is one.
use Rattle.std.proofs.Common.{◌≡◌, ⊎_elim, ℕ, ◌+◌, ◌<◌, ◌≤◌, Option, None, List, [], ◌∷◌, ◌++◌, length, take, drop, get_or, refl, sym, ap, ◌∙◌, subst, arith, append_assoc, length-append}
use Rattle.std.specs.List.{flat_map, count_by}
use Rattle.std.specs.Option.{is_some}
use Rattle.std.proofs.lemmas.Bool.{cases_lt}
use Rattle.std.proofs.lemmas.List.{get_or_append_left, get_or_push, get_or-take, length_push, length-take-le, take-append-drop, ext_get_or}
use Rattle.std.proofs.lemmas.List.Concat.{flat_map-append}
use Rattle.fg_io.specs.Prefix.{IsPrefix}
use Rattle.fg_encode.specs.Stream.{StreamEnding}
use Rattle.fg_monitor.specs.declared.continuity.Break.{Break}
use Rattle.fg_monitor.specs.Continuity.{IsToldOf}
use Rattle.fg_monitor.specs.Laws.{OneText}
use Rattle.fg_monitor.specs.Text.{AreToldOf, IsText, closing, line_if}
use Rattle.fg_monitor.proofs.Later.{agree_back, longer_agrees, one_to_tell, told_of}

pub none_told : AreToldOf [] []
none_told = record { all = refl; each = λ i within. absurd (omega arith) }

pub told_more : (packets : List (List ℕ)) (told : List (Option Break)) (packet : List ℕ) (next : Option Break)
    → AreToldOf packets told → IsToldOf (packets ++ packet ∷ []) (length packets) next → AreToldOf (packets ++ packet ∷ []) (told ++ next ∷ [])
told_more packets told packet next h k =
    let more : List (List ℕ) = packets ++ packet ∷ [] in
    let counted = length_push packets packet in
    record {
      all = length_push told next ∙ ap (λ n. n + 1) h.all ∙ sym counted;
      each = λ i within. ⊎_elim
          (λ (early : i < length packets).
          let there : i < length told = let same = h.all in omega arith in
          subst (λ (t : Option Break). IsToldOf more i t) (sym (get_or_append_left told (next ∷ []) None i there))
          (told_of packets more (length packets) i (get_or told i None) (longer_agrees packets (packet ∷ [])) early (h.each i early)))
          (λ (late : length packets ≤ i).
          let same : i ≡ length packets = omega (arith, within, counted) in
          subst (λ (n : ℕ). IsToldOf more n (get_or (told ++ next ∷ []) n None)) (sym same)
          (subst (λ (t : Option Break). IsToldOf more (length packets) t) (sym (get_or_push told next None (length packets) h.all)) k))
          (cases_lt i (length packets));
    }

-- what is told of all packets tells of the first of them too
front_told : (packets later : List (List ℕ)) (told : List (Option Break)) → AreToldOf (packets ++ later) told → AreToldOf packets (take (length packets) told)
front_told packets later told h =
    let counted = length-append packets later in
    let long = h.all in
    record {
      all = length-take-le (length packets) told (omega (arith, counted, long));
      each = λ i within.
          subst (λ (t : Option Break). IsToldOf packets i t) (sym (get_or-take (length packets) told i None within))
          (told_of (packets ++ later) packets (length packets) i (get_or told i None) (agree_back packets (packets ++ later) (length packets) (longer_agrees packets later)) within
          (h.each i (omega (arith, counted, within))));
    }

pub one_list : (packets : List (List ℕ)) (one other : List (Option Break)) → AreToldOf packets one → AreToldOf packets other → one ≡ other
one_list packets one other h k =
    ext_get_or None one other (h.all ∙ sym k.all)
    (λ i within. let there : i < length packets = let same = h.all in omega arith in one_to_tell packets i (get_or one i None) (get_or other i None) (h.each i there) (k.each i there))

pub one_text : OneText
one_text packets ending one other h k =
    h.text_is ∙ ap (λ (told : List (Option Break)). flat_map line_if told ++ closing ending (length packets) (count_by is_some told)) (one_list packets h.told k.told h.are k.are)
    ∙ sym k.text_is

-- the lines of the first packets are the front of the text of all
pub text_of_front : (packets later : List (List ℕ)) (told : List (Option Break)) (ending : StreamEnding) (text : List ℕ)
    → AreToldOf packets told → IsText (packets ++ later) ending text → IsPrefix (flat_map line_if told) text
text_of_front packets later told ending text h k =
    let n : ℕ = length packets in
    let front : take n k.told ≡ told = one_list packets (take n k.told) told (front_told packets later k.told k.are) h in
    let split : flat_map line_if k.told ≡ flat_map line_if told ++ flat_map line_if (drop n k.told) =
    ap (λ (l : List (Option Break)). flat_map line_if l) (sym (take-append-drop n k.told)) ∙ flat_map-append line_if (take n k.told) (drop n k.told)
    ∙ ap (λ (l : List (Option Break)). flat_map line_if l ++ flat_map line_if (drop n k.told)) front in
    let end : List ℕ = closing ending (length (packets ++ later)) (count_by is_some k.told) in
    (flat_map line_if (drop n k.told) ++ end, k.text_is ∙ ap (λ (l : List ℕ). l ++ end) split ∙ append_assoc (flat_map line_if told) (flat_map line_if (drop n k.told)) end)
