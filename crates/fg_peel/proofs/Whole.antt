-- What peeling a span of entries means for its closure and its solution.
use Rattle.std.proofs.Common.{◌≡◌, ◌≢◌, ◌⊎◌, ◌↔◌, ◌-◌, ℕ, List, ◌++◌, get_or, Option, Some, None, IsSome, refl, sym, ap, ◌∙◌, ⊎_elim, subst}
use Rattle.std.proofs.lemmas.Bool.{cases_lt}
use Rattle.std.specs.List.{Contains}
use Rattle.slab.specs.Slab.{Slab}
use Rattle.fg_words.specs.declared.Word.{Word}
use Rattle.fg_peel.specs.declared.Line.{Line}
use Rattle.fg_peel.specs.declared.Slot.{Slot}
use Rattle.fg_peel.specs.declared.Slot.TheVariants.{Empty, Media, Solved, Filled}
use Rattle.fg_peel.specs.declared.Verdict.{Verdict}
use Rattle.fg_peel.specs.declared.Verdict.TheVariants.{Sound, Unsound, NotMedia}
use Rattle.fg_peel.specs.Equation.{Equation, AreAdmissible, slots, AllComeOut, AreMedia, ComesOut}
use Rattle.fg_peel.specs.Closure.{InClosure}
use Rattle.fg_peel.specs.Peeling.{IsMaximal, end_of, EndsPeeling, ArePeeled}
use Rattle.fg_peel.specs.Solution.{IsSolution}
use Rattle.fg_peel.specs.Slots.{word_in, known_in, recovered_in, equation_of, equations_of, OnlyFills, words_from, known_from, recovered_from}
use Rattle.fg_peel.specs.Verdict.{IsVerdict, TellsSolution}
use Rattle.fg_peel.proofs.Entries.{told_from-entry, told_from-below}
use Rattle.fg_peel.proofs.Lines.{live_equation}
use Rattle.fg_peel.proofs.Peelings.{maximal_end, end_of-keeps}
use Rattle.fg_peel.proofs.Solutions.{solution_media, maximal_ends_at_solution}
use Rattle.fg_peel.proofs.Verdicts.{end_of-append, IsMaximal-append}

-- The words at the end are those of the closure.
pub ends_at_closure :
    (equations : List Equation) (old new : ℕ → Option Word) → EndsPeeling equations old new
    → (position : ℕ) → IsSome (new position) ↔ InClosure old equations position
ends_at_closure equations old new ends position =
    let P : (ℕ → Option Word) → Type 0 = λ words. IsSome (words position) ↔ InClosure old equations position in
    subst P (sym ends.2) (maximal_end old equations ends.0 ends.1 position)

-- A peeling of the known words, and then a maximal one of what it leaves, is a maximal peeling of the known words.
pub ends_from_known :
    (equations : List Equation) (known old new : ℕ → Option Word) → ArePeeled equations known old → EndsPeeling equations old new
    → EndsPeeling equations known new
ends_from_known equations known old new peeled ends =
    let solved = peeled.0 in
    let filled = ends.0 in
    let middle : old ≡ end_of known solved = peeled.2 in
    let M : (ℕ → Option Word) → Type 0 = λ words. IsMaximal words equations filled in
    let maximal : IsMaximal (end_of known solved) equations filled = subst M middle ends.1 in
    let joined : end_of known (solved ++ filled) ≡ end_of (end_of known solved) filled = end_of-append known solved filled in (
      solved ++ filled,
      IsMaximal-append known equations solved filled peeled.1 maximal,
      ends.2 ∙ ap (λ (words : ℕ → Option Word). end_of words filled) middle ∙ sym joined,
    )

-- An entry that was unknown, or was recovered, is recovered at the end if it has a word.
recovered_entry :
    (old new : Slot) (word : Word) → known_in old ≡ None → (old ≢ Empty → new ≡ old)
    → (old ≡ Empty → (new ≡ Empty) ⊎ ((w : Word) × (new ≡ Filled w))) → word_in new ≡ Some word → recovered_in new ≡ Some word
recovered_entry Empty new word unknown kept filled has = ⊎_elim
    (λ still. let e : word_in new ≡ None = ap word_in still in absurd (cc))
    (λ now. let e : word_in new ≡ Some now.0 = ap word_in now.1 in
    let r : recovered_in new ≡ Some now.0 = ap recovered_in now.1 in
    r ∙ sym e ∙ has)
    (filled refl)
recovered_entry (Media w) new word unknown kept filled has = absurd (cc)
recovered_entry (Solved w) new word unknown kept filled has =
    let same : new ≡ Solved w = kept (λ (e : Solved w ≡ Empty). (cc)) in
    ap recovered_in same ∙ sym (ap word_in same) ∙ has
recovered_entry (Filled w) new word unknown kept filled has = absurd (cc)

-- A recovered word is a word.
recovered_word : (entry : Slot) (word : Word) → recovered_in entry ≡ Some word → word_in entry ≡ Some word
recovered_word Empty word e = e
recovered_word (Media w) word e = absurd (cc)
recovered_word (Solved w) word e = e
recovered_word (Filled w) word e = e

pub recovered_told :
    (start : ℕ) (entries : List Slot) (position : ℕ) (word : Word) → recovered_from start entries position ≡ Some word
    → words_from start entries position ≡ Some word
recovered_told start entries position word told = ⊎_elim
    (λ below. let e : None ≡ Some word = sym (told_from-below recovered_in start entries position below) ∙ told in absurd (cc))
    (λ above. told_from-entry word_in start entries position above
    ∙ recovered_word (get_or entries (position - start) Empty) word (sym (told_from-entry recovered_in start entries position above) ∙ told))
    (cases_lt position start)

pub recovered_since :
    (start : ℕ) (old new : List Slot) → OnlyFills old new → (position : ℕ) (word : Word) → known_from start old position ≡ None
    → words_from start new position ≡ Some word → recovered_from start new position ≡ Some word
recovered_since start old new fills position word unknown told = ⊎_elim
    (λ below. let e : None ≡ Some word = sym (told_from-below word_in start new position below) ∙ told in absurd (cc))
    (λ above. let k = position - start in
    told_from-entry recovered_in start new position above
    ∙ recovered_entry (get_or old k Empty) (get_or new k Empty) word
    (sym (told_from-entry known_in start old position above) ∙ unknown) (fills.kept k) (fills.filled k)
    (sym (told_from-entry word_in start new position above) ∙ told))
    (cases_lt position start)

module _ (lines : Slab Line) (known words recovered : ℕ → Option Word) where
  -- The verdict is Sound only where the words are a solution.
  pub sound_solves :
      EndsPeeling (equations_of lines) known words
      → ((position : ℕ) (word : Word) → known position ≡ None → words position ≡ Some word → recovered position ≡ Some word)
      → AreMedia recovered → AllComeOut words (equations_of lines) → IsSolution known (equations_of lines) words
  sound_solves ends since media out = record {
    domain = ends_at_closure (equations_of lines) known words ends;
    keeps = λ position word is.
        ap (λ (ws : ℕ → Option Word). ws position) ends.2 ∙ end_of-keeps known (equations_of lines) ends.0 ends.1.peeling position word is;
    media = λ position word unknown has. media position word (since position word unknown has);
    sums = λ equation listed inside. out equation listed (λ q c. (ends_at_closure (equations_of lines) known words ends q).1 (inside q c));
  }

  -- Where there is a solution, the words are it, and the verdict is Sound.
  pub solution_found :
      AreAdmissible known (equations_of lines) → EndsPeeling (equations_of lines) known words
      → ((position : ℕ) (word : Word) → recovered position ≡ Some word → words position ≡ Some word)
      → (solution : ℕ → Option Word) → IsSolution known (equations_of lines) solution
      → (answer : Verdict) → IsVerdict recovered words lines answer → (answer ≡ Sound) × (words ≡ solution)
  solution_found admissible ends had solution solves answer verdict = (told answer verdict, same)
    where
      same : words ≡ solution
      same = ends.2 ∙ maximal_ends_at_solution known (equations_of lines) admissible solution solves ends.0 ends.1

      told : (answer : Verdict) → IsVerdict recovered words lines answer → answer ≡ Sound
      told Sound verdict = refl
      told (Unsound place) verdict =
          let b = verdict.1.0 in
          let complete : (q : ℕ) → Contains (slots (equation_of b.0)) q → InClosure known (equations_of lines) q =
          λ q c. (ends_at_closure (equations_of lines) known words ends q).0 (b.3 q c) in
          let sum = solves.sums (equation_of b.0) (live_equation lines b.0 b.1) complete in
          let P : (ℕ → Option Word) → Type 0 = λ ws. ComesOut ws (equation_of b.0) in
          absurd (b.4 (subst P (sym same) sum))
      told (NotMedia slot) verdict =
          let w = verdict.0 in
          let has : solution slot ≡ Some w.0 = sym (ap (λ (ws : ℕ → Option Word). ws slot) same) ∙ had slot w.0 w.1 in
          absurd (w.2 (solution_media known (equations_of lines) admissible solution solves slot w.0 has))

  pub tells_solution :
      AreAdmissible known (equations_of lines) → EndsPeeling (equations_of lines) known words
      → ((position : ℕ) (word : Word) → recovered position ≡ Some word → words position ≡ Some word)
      → ((position : ℕ) (word : Word) → known position ≡ None → words position ≡ Some word → recovered position ≡ Some word)
      → (answer : Verdict) → IsVerdict recovered words lines answer → TellsSolution (equations_of lines) known words answer
  tells_solution admissible ends had since answer verdict = record {
    sound = λ is.
        (let P : Verdict → Type 0 = λ a. IsVerdict recovered words lines a in
        let v : IsVerdict recovered words lines Sound = subst P is verdict in
        sound_solves ends since v.0 v.1);
    complete = λ solution solves. solution_found admissible ends had solution solves answer verdict;
  }
