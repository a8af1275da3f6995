-- A search of what follows.
use Rattle.std.proofs.Common.{◌≡◌, ◌≢◌, ◌-◌, ◌<◌, ◌≤◌, ℕ, Bool, true, false, List, length, get_or, Option, Some, None, IsSome, Contains, refl, sym, ap, subst, ◌∙◌, ⊎_elim, arith, get_or-set_other, get_or-set_same, lt-ltb}
use Rattle.std.proofs.Math.ListN.{set}
use Rattle.std.proofs.lemmas.Grind.{common_steps}
use Rattle.std.proofs.lemmas.Bool.{cases_lt, cases_eq}
use Rattle.std.proofs.lemmas.Option.{none-some, same_Some}
use Rattle.std.specs.FinMap.{get, entries}
use Rattle.fg_peel.specs.Equation.{Equation, slots}
use Rattle.fg_peel.proofs.Lists.{Contains-from_map}
use Rattle.fg_peel.proofs.Maps.{get_of_entry}
use Rattle.fg_playout.proofs.Equations.{live_at}
use Rattle.fg_playout.specs.State.{State, Live, known, live_equations}
use Rattle.fg_playout.specs.Solution.{InClosure, given, derived}
use Rattle.fg_closure.specs.declared.search.LineSlots.{LineSlots}
use Rattle.fg_closure.specs.declared.search.Lacking.{Lacking}
use Rattle.fg_closure.specs.declared.search.Lacking.TheVariants.{Nothing, One, Several}
use Rattle.fg_closure.specs.Flags.{IsFlagged, slots_at, IsLineAt, HasFlags, AreWithout, IsFilled, NothingFollows, IsOnTheWay}
use Rattle.fg_closure.proofs.Misses.{slot_within}

-- A flag is one of the list.
pub true_within : (flags : List Bool) (k : ℕ) → get_or flags k false ≡ true → k < length flags
true_within flags k is = grind (arith, common_steps)

-- One more flag.
pub set_here : (first position : ℕ) (flags : List Bool) → first ≤ position → position - first < length flags
    → IsFlagged first (set flags (position - first) true) position
set_here first position flags from within = (from, get_or-set_same flags (position - first) true false within)

pub set_keeps : (first position other : ℕ) (flags : List Bool) → first ≤ position → IsFlagged first flags other
    → IsFlagged first (set flags (position - first) true) other
set_keeps first position other flags from flagged = (
  flagged.0,
  ⊎_elim
      (λ same. (
      let here = true_within flags (other - first) flagged.1 in
      rw same (get_or-set_same flags (position - first) true false (rw same at here))
      ))
      (λ differ. get_or-set_other flags (position - first) (other - first) true false differ ∙ flagged.1)
      (cases_eq (other - first) (position - first)),
)

pub set_was : (first position other : ℕ) (flags : List Bool) → first ≤ position → other ≢ position
    → IsFlagged first (set flags (position - first) true) other → IsFlagged first flags other
set_was first position other flags from differ flagged =
    let above = flagged.0 in
    let differs : other - first ≢ position - first = λ same. differ (omega (arith, same, above, from)) in
    (flagged.0, sym (get_or-set_other flags (position - first) (other - first) true false differs) ∙ flagged.1)

-- What is flagged stays so.
pub filled_keeps : (first count : ℕ) (line : LineSlots) (old new : List Bool) (missing : Lacking) → HasFlags first count line
    → AreWithout (IsFlagged first old) (slots_at line) missing → IsFilled first old missing new
    → (position : ℕ) → IsFlagged first old position → IsFlagged first new position
filled_keeps first count line old new Nothing has told filled position flagged = rw filled flagged
filled_keeps first count line old new (Several one other) has told filled position flagged = rw filled flagged
filled_keeps first count line old new (One slot) has told filled position flagged =
    let from = (slot_within first count line slot has told.0).0 in
    subst (λ flags. IsFlagged first flags position) (sym filled) (set_keeps first slot position old from flagged)

-- The line is complete then, where it lacked one flag at most.
pub complete_now : (first : ℕ) (line : LineSlots) (old new : List Bool) (missing : Lacking) → HasFlags first (length old) line
    → AreWithout (IsFlagged first old) (slots_at line) missing → IsFilled first old missing new
    → ((one other : ℕ) → missing ≡ Several one other → ⊥) → AreWithout (IsFlagged first new) (slots_at line) Nothing
complete_now first line old new Nothing has told filled few slot c = rw filled (told slot c)
complete_now first line old new (Several one other) has told filled few slot c = absurd (few one other refl)
complete_now first line old new (One missing) has told filled few slot c =
    let within = slot_within first (length old) line missing has told.0 in
    subst (λ flags. IsFlagged first flags slot) (sym filled)
    (⊎_elim
    (λ same. rw same (set_here first missing old within.0 within.1))
    (λ differ. set_keeps first missing slot old within.0 (told.2 slot c differ))
    (cases_eq slot missing))

-- A line's slots are those of its equation.
pub same_slots : (desk : State) (place : ℕ) (line : LineSlots) (at : IsLineAt desk place line) → slots_at line ≡ slots at.live.equation
same_slots desk place line at = rw (at.base_is, at.offset_is, at.count_is) refl

-- Below the mark, what is kept is known.
pub known_below : (desk : State) (position : ℕ) → position < desk.mark → IsSome (get desk.kept position) → IsSome (known desk position)
known_below desk position below some = rw (lt-ltb position desk.mark below) some

-- The flags stay on the way.
pub way_on : (desk : State) (first place : ℕ) (line : LineSlots) (lines : List (Option LineSlots)) (old new : List Bool) (missing : Lacking)
    → HasFlags first (length old) line → get_or lines place None ≡ Some line → AreWithout (IsFlagged first old) (slots_at line) missing
    → IsFilled first old missing new → IsOnTheWay desk first lines old → IsOnTheWay desk first lines new
way_on desk first place line lines old new Nothing has here told filled way = subst (λ flags. IsOnTheWay desk first lines flags) (sym filled) way
way_on desk first place line lines old new (Several one other) has here told filled way = subst (λ flags. IsOnTheWay desk first lines flags) (sym filled) way
way_on desk first place line lines old new (One slot) has here told filled way =
    let from = (slot_within first (length old) line slot has told.0).0 in
    let at = way.lines place line here in
    let same = same_slots desk place line at in
    let listed : (other : ℕ) → Contains (slots_at line) other → Contains (slots at.live.equation) other = λ other c. subst (λ (s : List ℕ). Contains s other) same c in
    let ahead : desk.mark ≤ slot = ⊎_elim
    (λ below. absurd (told.1 (way.given slot (known_below desk slot below
    ((way.facts.live line.serial at.live at.listed).based slot (listed slot told.0) below)))))
    (λ past. past)
    (cases_lt slot desk.mark) in
    let follows : InClosure desk slot =
    derived at.live.equation (live_at desk line.serial at.live at.listed) (listed slot told.0) ahead
    (λ other c differ. way.within other (told.2 other (subst (λ (s : List ℕ). Contains s other) (sym same) c) differ)) in
    let after : IsOnTheWay desk first lines (set old (slot - first) true) = record {
      facts = way.facts;
      lines = way.lines;
      given = λ position some. set_keeps first slot position old from (way.given position some);
      within = λ position flagged. ⊎_elim
          (λ equal. rw equal follows)
          (λ differ. way.within position (set_was first slot position old from differ flagged))
          (cases_eq position slot);
    } in
    subst (λ flags. IsOnTheWay desk first lines flags) (sym filled) after

-- Where nothing follows from any line, all of the closure is flagged.
module _ (desk : State) (first : ℕ) (lines : List (Option LineSlots)) (flags : List Bool)
    (way : IsOnTheWay desk first lines flags)
    (placed : (place : ℕ) (line : LineSlots) → IsLineAt desk place line → get_or lines place None ≡ Some line)
    (done : (place : ℕ) (line : LineSlots) → get_or lines place None ≡ Some line → NothingFollows first flags line) where
  equation_done : (equation : Equation) → Contains (live_equations desk) equation
      → (line : LineSlots) × (slots_at line ≡ slots equation) × NothingFollows first flags line
  equation_done equation c =
      let found = Contains-from_map (λ (entry : ℕ × Live). entry.1.equation) (entries desk.equations) equation c in
      let live = found.0.1 in
      let is : get desk.equations found.0.0 ≡ Some live = get_of_entry desk.equations found.0 found.1 in
      let line : LineSlots =
      record { serial = found.0.0; base = live.equation.base; shape = record { offset = live.equation.offset; na = live.equation.count } } in
      let at : IsLineAt desk live.place line =
      record { live = live; listed = is; placed = refl; base_is = refl; offset_is = refl; count_is = refl } in
      (line, ap slots found.2, done live.place line (placed live.place line at))

  pub all_flagged : (position : ℕ) → InClosure desk position → IsFlagged first flags position
  all_flagged position (given some) = way.given position some
  all_flagged position (derived equation c slot ahead others) =
      let line = equation_done equation c in
      let in_line : (other : ℕ) → Contains (slots_at line.0) other → Contains (slots equation) other = λ other h. subst (λ (s : List ℕ). Contains s other) line.1 h in
      ⊎_elim
      (λ all. all position (subst (λ (s : List ℕ). Contains s position) (sym line.1) slot))
      (λ two. ⊎_elim
      (λ same. absurd (two.2.4 (all_flagged two.1 (others two.1 (in_line two.1 two.2.1) (λ equal. two.2.2 (same ∙ sym equal))))))
      (λ differ. absurd (two.2.3 (all_flagged two.0 (others two.0 (in_line two.0 two.2.0) differ))))
      (cases_eq two.0 position))
      line.2
