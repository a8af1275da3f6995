-- Where a found word is a media word, all words are that were before.
use Rattle.std.proofs.Common.{◌≡◌, ◌↔◌, ◌-◌, ◌<◌, ◌≤◌, ℕ, List, length, get_or, Option, Some, IfSome, IsSomeAnd, sym, ap, ◌∙◌, ⊎_elim, subst}
use Rattle.std.proofs.lemmas.Bool.{cases_eq}
use Rattle.std.proofs.lemmas.List.{get_or-set_same}
use Rattle.fg_words.specs.declared.Word.{Word}
use Rattle.fg_words.specs.Word.{HasRoom, IsMedia}
use Rattle.fg_peel.specs.declared.Slot.{Slot}
use Rattle.fg_peel.specs.declared.Slot.TheVariants.{Empty, Filled}
use Rattle.fg_peel.specs.Equation.{Equation}
use Rattle.fg_peel.specs.Peeling.{Step, after_step, given_word}
use Rattle.fg_peel.specs.Slots.{word_in, words_from}
use Rattle.fg_peel.specs.Recovery.{Fills, StayMedia}
use Rattle.fg_peel.proofs.Peelings.{after_step-at, after_step-other}
use Rattle.fg_peel.proofs.Steps.{fill-told}

pub filled_media :
    (start : ℕ) (equation : Equation) (position : ℕ) (old new : List Slot) → start ≤ position → position - start < length old
    → Fills start equation position old new → IsSomeAnd (word_in (get_or new (position - start) Empty)) IsMedia
    → StayMedia (words_from start old) (words_from start new)
filled_media start equation position old new from within fills is all q word told =
    let step : Step = record { equation = equation; position = position } in
    let words : ℕ → Option Word = words_from start old in
    let given : Word = given_word words step in
    let here : word_in (get_or new (position - start) Empty) ≡ Some given =
    ap (λ (es : List Slot). word_in (get_or es (position - start) Empty)) fills
    ∙ ap word_in (get_or-set_same old (position - start) (Filled given) Empty within) in
    let media : IsMedia given = subst (λ (o : Option Word). IsSomeAnd o IsMedia) here is in
    let end : words_from start new ≡ after_step words step =
    ap (words_from start) fills ∙ fill-told start old step from within in
    let after : after_step words step q ≡ Some word = ap (λ (f : ℕ → Option Word). f q) (sym end) ∙ told in
    ⊎_elim
    (λ (same : q ≡ position).
    let at : after_step words step q ≡ Some given = ap (after_step words step) same ∙ after_step-at words step in
    let both : given ≡ word = cc in
    subst IsMedia both media)
    (λ differs. all q word (sym (after_step-other words step q differs) ∙ after))
    (cases_eq q position)

-- What a test of the filled entry tells.
pub told_media :
    (start : ℕ) (equation : Equation) (position : ℕ) (old new : List Slot) → position - start < length old
    → Fills start equation position old new
    → IsSomeAnd (word_in (get_or new (position - start) Empty)) IsMedia
    ↔ IsMedia (given_word (words_from start old) (record { equation = equation; position = position }))
told_media start equation position old new within fills =
    let given : Word = given_word (words_from start old) (record { equation = equation; position = position }) in
    let here : word_in (get_or new (position - start) Empty) ≡ Some given =
    ap (λ (es : List Slot). word_in (get_or es (position - start) Empty)) fills
    ∙ ap word_in (get_or-set_same old (position - start) (Filled given) Empty within) in (
      λ is. subst (λ (o : Option Word). IsSomeAnd o IsMedia) here is,
      λ media. subst (λ (o : Option Word). IsSomeAnd o IsMedia) (sym here) media,
    )

-- The room of the word that was filled in.
pub filled_room :
    (start : ℕ) (equation : Equation) (position : ℕ) (old new : List Slot) → position - start < length old
    → Fills start equation position old new → IfSome (word_in (get_or new (position - start) Empty)) HasRoom
    → HasRoom (given_word (words_from start old) (record { equation = equation; position = position }))
filled_room start equation position old new within fills room =
    let given : Word = given_word (words_from start old) (record { equation = equation; position = position }) in
    let here : word_in (get_or new (position - start) Empty) ≡ Some given =
    ap (λ (es : List Slot). word_in (get_or es (position - start) Empty)) fills
    ∙ ap word_in (get_or-set_same old (position - start) (Filled given) Empty within) in
    subst (λ (o : Option Word). IfSome o HasRoom) here room
