-- A desk's closure has a test and a limit, and the desk has a solution or it has none.
use Rattle.std.proofs.Common.{◌≡◌, ◌⊎◌, ◌+◌, ◌<◌, ℕ, List, [], ◌∷◌, Option, Some, None, IsSome, inl, inr, sym, subst, ◌∙◌, ⊎_elim, arith}
use Rattle.std.proofs.lemmas.Bool.{cases_lt}
use Rattle.std.proofs.lemmas.Option.{none-some, same_Some}
use Rattle.std.specs.List.{Contains}
use Rattle.std.specs.FinMap.{get}
use Rattle.fg_words.specs.declared.Word.{Word}
use Rattle.fg_words.specs.Word.{IsMedia}
use Rattle.fg_peel.specs.Equation.{Equation, slots, sum_at, IsComplete, ComesOut, AllComeOut}
use Rattle.fg_peel.specs.Solution.{FindsMedia}
use Rattle.fg_peel.specs.Peeling.{IsSound, end_of}
use Rattle.fg_peel.proofs.Lists.{Contains-cases, Contains-nil}
use Rattle.fg_peel.proofs.Options.{none_or_some, none_has_no_value, value_of, has_value}
use Rattle.fg_playout.specs.State.{State, known, live_equations}
use Rattle.fg_playout.specs.Solution.{InClosure, IsSolution, given, derived}
use Rattle.fg_playout.specs.Play.{IsHighest}
use Rattle.fg_playout.proofs.Decided.{IsDecided, decided_both, decided_if, decided_as, decided_all, decided_below, greatest_or_none, decided_words, decided_media}
use Rattle.fg_playout.proofs.MadeMaps.{limit_of, keys_limit}
use Rattle.fg_playout.specs.Existence.{PeelingLaws}
use Rattle.fg_playout.proofs.Orderly.{IsOrderly, known_ahead, admissible}
use Rattle.fg_playout.proofs.Peeled.{closure_to_peel, closure_from_peel, solution_to_peel, solution_from_peel}

-- All slots of a list's equations lie below a limit.
slots_limit :
    (equations : List Equation)
    → (limit : ℕ) × ((equation : Equation) (slot : ℕ) → Contains equations equation → Contains (slots equation) slot → slot < limit)
slots_limit [] = (0, λ equation slot c at. absurd (Contains-nil equation c))
slots_limit (first ∷ equations) =
    let here = limit_of (slots first) in
    let rest = slots_limit equations in (
      here.0 + rest.0,
      λ equation slot c at. ⊎_elim
          (λ same.
          let below = here.1 slot (subst (λ (e : Equation). Contains (slots e) slot) same at) in
          omega (arith, below))
          (λ there. let below = rest.1 equation slot there at in omega (arith, below))
          (Contains-cases first equations equation c),
    )

-- The closure has its positions among the known ones and the slots of the live equations.
pub closure_limit : (desk : State) → (limit : ℕ) × ((position : ℕ) → InClosure desk position → position < limit)
closure_limit desk =
    let received = keys_limit desk.media in
    let slot_limit = slots_limit (live_equations desk) in
    (desk.mark + received.0 + slot_limit.0, below received.0 slot_limit.0 received.1 slot_limit.1)
  where
    below :
        (limit other : ℕ) → ((k : ℕ) (v : Word) → get desk.media k ≡ Some v → k < limit)
        → ((equation : Equation) (slot : ℕ) → Contains (live_equations desk) equation → Contains (slots equation) slot → slot < other)
        → (position : ℕ) → InClosure desk position → position < desk.mark + limit + other
    below limit other received slot_limit position (given some) = ⊎_elim
        (λ less. omega (arith, less))
        (λ ahead.
        let v = value_of (get desk.media position) (subst (λ (o : Option Word). IsSome o) (known_ahead desk position ahead) some) in
        let less = received position v.0 v.1 in
        omega (arith, less))
        (cases_lt position desk.mark)
    below limit other received slot_limit position (derived equation listed slot ahead others) =
        let less = slot_limit equation position listed slot in
        omega (arith, less)

pub decided_some : (o : Option Word) → IsDecided (IsSome o)
decided_some o = ⊎_elim (λ none. inr (none_has_no_value o none)) (λ some. inl (has_value o some.0 some.1)) (none_or_some o)

-- A word that wasn't known is a media word.
abbrev FoundMedia : Option Word → Option Word → Type 0
FoundMedia before after = (word : Word) → before ≡ None → after ≡ Some word → IsMedia word

decided_found : (before after : Option Word) → IsDecided (FoundMedia before after)
decided_found before after = ⊎_elim
    (λ unknown. ⊎_elim
    (λ none. inl (λ word _ is. absurd (none-some word (sym none ∙ is))))
    (λ some. ⊎_elim
    (λ yes. inl (λ word _ is. subst IsMedia (same_Some some.0 word (sym some.1 ∙ is)) yes))
    (λ no. inr (λ all. no (all some.0 unknown some.1)))
    (decided_media some.0))
    (none_or_some after))
    (λ was. inl (λ word unknown is. absurd (none-some was.0 (sym unknown ∙ was.1))))
    (none_or_some before)

decided_complete : (words : ℕ → Option Word) (equation : Equation) → IsDecided (IsComplete words equation)
decided_complete words equation = decided_all (λ (q : ℕ). IsSome (words q)) (λ q. decided_some (words q)) (slots equation)

decided_all_come_out : (words : ℕ → Option Word) (equations : List Equation) → IsDecided (AllComeOut words equations)
decided_all_come_out words equations = decided_all
    (λ (e : Equation). IsComplete words e → ComesOut words e)
    (λ e. decided_if (IsComplete words e) (ComesOut words e) (decided_complete words e) (decided_words e.parity (sum_at words (slots e))))
    equations

module _ (laws : PeelingLaws) (desk : State) (orderly : IsOrderly desk) where
  pub decided_closure : (position : ℕ) → IsDecided (InClosure desk position)
  decided_closure position =
      let m = laws.exists (known desk) (live_equations desk) in
      let ends = laws.filled (known desk) (live_equations desk) m.0 m.1 position in
      decided_as (IsSome (end_of (known desk) m.0 position)) (InClosure desk position)
      (λ some. closure_from_peel desk orderly position (ends.0 some))
      (λ follows. ends.1 (closure_to_peel desk position follows))
      (decided_some (end_of (known desk) m.0 position))

  pub highest_or_none : ((highest : ℕ) × IsHighest desk highest) ⊎ ((position : ℕ) → InClosure desk position → ⊥)
  highest_or_none =
      let limit = closure_limit desk in greatest_or_none (InClosure desk) decided_closure limit.0 limit.1

  pub solution_or_none : ((words : ℕ → Option Word) × IsSolution desk words) ⊎ ((words : ℕ → Option Word) → ¬ IsSolution desk words)
  solution_or_none =
      let m = laws.exists (known desk) (live_equations desk) in
      let end : ℕ → Option Word = end_of (known desk) m.0 in
      let limit = closure_limit desk in
      let found : IsDecided (FindsMedia (known desk) end) = decided_as
      ((q : ℕ) → q < limit.0 → FoundMedia (known desk q) (end q)) (FindsMedia (known desk) end)
      (λ all q word unknown is.
      let follows = closure_from_peel desk orderly q ((laws.filled (known desk) (live_equations desk) m.0 m.1 q).0 (has_value (end q) word is)) in
      all q (limit.1 q follows) word unknown is)
      (λ all q below word unknown is. all q word unknown is)
      (decided_below (λ q. FoundMedia (known desk q) (end q)) (λ q. decided_found (known desk q) (end q)) limit.0) in
      let tests = laws.tested (known desk) (live_equations desk) m.0 m.1 in
      let sound : IsDecided (IsSound (known desk) (live_equations desk) m.0) = decided_as
      (FindsMedia (known desk) end × AllComeOut end (live_equations desk)) (IsSound (known desk) (live_equations desk) m.0)
      tests.1 tests.0
      (decided_both (FindsMedia (known desk) end) (AllComeOut end (live_equations desk)) found
      (decided_all_come_out end (live_equations desk))) in
      let solvable = laws.solvable (known desk) (live_equations desk) (admissible desk orderly) m.0 m.1 in
      ⊎_elim
      (λ yes. let s = solvable.0 yes in inl (s.0, solution_from_peel desk orderly s.0 s.1))
      (λ no. inr (λ words solution. no (solvable.1 (words, solution_to_peel desk orderly words solution))))
      sound
