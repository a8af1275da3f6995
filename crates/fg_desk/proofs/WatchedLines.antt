-- Watched lines where places are queued, words come and lines are settled.
use Rattle.std.proofs.Common.{◌≡◌, ◌≢◌, ◌^◌, ◌<◌, ◌≤◌, ℕ, Bool, true, false, List, get_or, Option, Some, IsSome, inl, inr, refl, sym, ap, subst, ◌∙◌, ⊎_elim, arith}
use Rattle.std.proofs.lemmas.Bool.{cases_eq}
use Rattle.std.proofs.lemmas.List.{get_or-set_other}
use Rattle.std.proofs.lemmas.Option.{none-some, same_Some}
use Rattle.std.specs.FinMap.{get, insert, get-empty}
use Rattle.std.specs.Ordering.{nat_cmp}
use Rattle.std.specs.FinSet as fset
use Rattle.fg_words.specs.declared.Word.{Word}
use Rattle.fg_peel.specs.Equation.{Equation}
use Rattle.fg_peel.specs.Look.{LacksTwo, IsLook}
use Rattle.fg_peel.specs.declared.looks.Look.{Look}
use Rattle.fg_peel.specs.declared.looks.Look.TheVariants.{Several, Found, Complete}
use Rattle.fg_shape.specs.Shape.{IsShape}
use Rattle.fg_peel.proofs.Maps.{inserted, beside_inserted}
use Rattle.fg_peel.proofs.SlotRange.{slot_is_near}
use Rattle.fg_playout.specs.State.{Live}
use Rattle.fg_buffer.specs.LiveEquations.{LiveState, AreLive, SettlesAt, no_equations}
use Rattle.fg_buffer.specs.Watches.{WatchState, IsQueued, TakesOut, Adds, WatchesAt, Wakes, first_of, second_of}
use Rattle.fg_desk.specs.Watched.{IsWatched, EachWatched, IsNear}

lacks_as :
    (words : ℕ → Option Word) (equation : Equation) (first second first' second' : ℕ) → first' ≡ first → second' ≡ second
    → LacksTwo words equation first second → LacksTwo words equation first' second'
lacks_as words equation first second first' second' same same' lacks =
    subst (λ (p : ℕ). LacksTwo words equation p second') (sym same)
    (subst (λ (q : ℕ). LacksTwo words equation first q) (sym same') lacks)

-- Where a line watches what it watched, it is watched still.
pub still_watched :
    (one other : WatchState) (words : ℕ → Option Word) (live : Live)
    → (IsQueued one live.place → IsQueued other live.place) → first_of other live.place ≡ first_of one live.place
    → second_of other live.place ≡ second_of one live.place → IsWatched one words live → IsWatched other words live
still_watched one other words live queued first second watched = ⊎_elim
    (λ is. inl (queued is))
    (λ lacks.
    inr (lacks_as words live.equation (first_of one live.place) (second_of one live.place) (first_of other live.place)
    (second_of other live.place) first second lacks))
    watched

-- So it is where the place of another line is taken out,
pub taken_watched :
    (place : ℕ) (one other : WatchState) → TakesOut place one other → (words : ℕ → Option Word) (live : Live)
    → live.place ≢ place → IsWatched one words live → IsWatched other words live
taken_watched place one other out words live differs =
    still_watched one other words live
    (λ is.
    ap (λ (qs : List Bool). get_or qs live.place false) out.taken
    ∙ get_or-set_other one.queued place live.place false false differs ∙ is)
    (ap (λ (xs : List ℕ). get_or xs live.place 0) out.first) (ap (λ (xs : List ℕ). get_or xs live.place 0) out.second)

-- where another line watches other positions,
pub apart_watched :
    (place first second : ℕ) (one other : WatchState) → WatchesAt place first second one other → (words : ℕ → Option Word)
    (live : Live) → live.place ≢ place → IsWatched one words live → IsWatched other words live
apart_watched place first second one other at words live differs =
    still_watched one other words live (λ is. ap (λ (qs : List Bool). get_or qs live.place false) at.queued ∙ is)
    (at.other_first live.place differs) (at.other_second live.place differs)

-- and where a place is queued.
pub added_watched :
    (place : ℕ) (one other : WatchState) → Adds place one other → (words : ℕ → Option Word) (live : Live)
    → IsWatched one words live → IsWatched other words live
added_watched place one other adds words live =
    still_watched one other words live (adds.still live.place) (ap (λ (xs : List ℕ). get_or xs live.place 0) adds.first)
    (ap (λ (xs : List ℕ). get_or xs live.place 0) adds.second)

-- A word comes at a position: each line that watches it is queued.
module _
    (one other : WatchState) (words later : ℕ → Option Word) (position : ℕ) (some : IsSome (later position))
    (beside : (q : ℕ) → q ≢ position → later q ≡ words q) (wakes : Wakes position one other) where
  stays : (q : ℕ) → IsSome (words q) → IsSome (later q)
  stays q has = ⊎_elim
      (λ here. subst (λ (p : ℕ). IsSome (later p)) (sym here) some)
      (λ apart. subst (λ (o : Option Word). IsSome o) (sym (beside q apart)) has)
      (cases_eq q position)

  pub put_watched : (live : Live) → live.place < 512 → IsWatched one words live → IsWatched other later live
  put_watched live within watched = ⊎_elim
      (λ is. inl (wakes.still live.place is))
      (λ lacks. ⊎_elim
      (λ here. inl (wakes.woken live.place within (inl here)))
      (λ apart. ⊎_elim
      (λ here. inl (wakes.woken live.place within (inr here)))
      (λ apart'.
      inr (lacks_as later live.equation (first_of one live.place) (second_of one live.place) (first_of other live.place)
      (second_of other live.place) (ap (λ (xs : List ℕ). get_or xs live.place 0) wakes.first)
      (ap (λ (xs : List ℕ). get_or xs live.place 0) wakes.second)
      (record {
        first_slot = lacks.first_slot;
        second_slot = lacks.second_slot;
        before = lacks.before;
        first_lacks = beside (first_of one live.place) apart ∙ lacks.first_lacks;
        second_lacks = beside (second_of one live.place) apart' ∙ lacks.second_lacks;
        filled = λ slot c below. stays slot (lacks.filled slot c below);
      })))
      (cases_eq (second_of one live.place) position))
      (cases_eq (first_of one live.place) position))
      watched

  pub each_put_watched : (lines : LiveState) → EachWatched one words lines → EachWatched other later lines
  each_put_watched lines each serial live is open_still =
      let w = each serial live is open_still in (w.0, put_watched live w.0 w.1)

-- An open line was open before others were settled.
pub open_before :
    (place : ℕ) (old new : LiveState) → SettlesAt place old new → (serial : ℕ) → fset.contains new.settled serial ≡ false
    → fset.contains old.settled serial ≡ false
open_before place old new settles serial is = go (fset.contains old.settled serial) refl
  where
    go : (b : Bool) → fset.contains old.settled serial ≡ b → fset.contains old.settled serial ≡ false
    go false same = same
    go true same = let e : false ≡ true = sym is ∙ (settles.settled serial).1 (inl same) in absurd (cc)

-- It isn't one of those.
pub open_elsewhere :
    (place : ℕ) (old new : LiveState) → SettlesAt place old new → (serial : ℕ) (live : Live) → get old.live serial ≡ Some live
    → fset.contains new.settled serial ≡ false → live.place ≢ place
open_elsewhere place old new settles serial live is open_still same =
    let e : false ≡ true = sym open_still ∙ (settles.settled serial).1 (inr (live, is, same)) in absurd (cc)

-- Fewer lines are open where one is settled.
pub settled_watched :
    (place : ℕ) (old new : LiveState) → SettlesAt place old new → (watches : WatchState) (words : ℕ → Option Word)
    → EachWatched watches words old → EachWatched watches words new
settled_watched place old new settles watches words each serial live is open_still =
    each serial live (sym (ap (λ m. get m serial) settles.live) ∙ is) (open_before place old new settles serial open_still)

-- A place has one live line.
pub one_at :
    (lines : LiveState) → AreLive lines → (serial serial' : ℕ) (one other : Live) → get lines.live serial ≡ Some one
    → get lines.live serial' ≡ Some other → one.place ≡ other.place → one ≡ other
one_at lines facts serial serial' one other is is' same =
    let here = facts.apart serial serial' one other is is' same in
    same_Some one other (sym is ∙ ap (get lines.live) here ∙ is')

-- No line is live.
pub none_watched :
    (watches : WatchState) (words : ℕ → Option Word) (lines : LiveState) → lines ≡ no_equations → EachWatched watches words lines
none_watched watches words lines none serial live is open_still =
    absurd (none-some live (sym (ap (λ (l : LiveState). get l.live serial) none ∙ get-empty {X = Live} nat_cmp serial) ∙ is))

-- All places are queued.
pub all_watched :
    (watches : WatchState) (words : ℕ → Option Word) (lines : LiveState) → AreLive lines
    → ((place : ℕ) → place < 512 → IsQueued watches place) → EachWatched watches words lines
all_watched watches words lines facts all serial live is open_still =
    let within = facts.place serial live is in (within, inl (all live.place within))

-- A line is added, and its place is queued.
pub more_watched :
    (one other : WatchState) (words : ℕ → Option Word) (old new : LiveState) (serial place : ℕ) (equation : Equation) → place < 512
    → Adds place one other
    → new ≡ record old { live = insert old.live serial (record { place = place; equation = equation }) }
    → EachWatched one words old → EachWatched other words new
more_watched one other words old new serial place equation within adds added each =
    subst (λ (l : LiveState). EachWatched other words l) (sym added)
    (λ serial' live is open_still. ⊎_elim
    (λ here.
    let line : Live = record { place = place; equation = equation } in
    let same : line ≡ live = same_Some line live (sym (inserted old.live serial line serial' here) ∙ is) in
    subst (λ (l : Live). (l.place < 512) × IsWatched other words l) same (within, inl adds.added))
    (λ beside.
    let line : Live = record { place = place; equation = equation } in
    let w = each serial' live (sym (beside_inserted old.live serial line serial' beside) ∙ is) open_still in
    (w.0, added_watched place one other adds words live w.1))
    (cases_eq serial' serial))

-- A found position can be watched.
pub found_near :
    (old new : ℕ → Option Word) (equation : Equation) (look : Look) → IsShape equation.offset equation.count
    → equation.base ≤ 2 ^ 62 → IsLook old new equation look → IsNear look
found_near old new equation (Several first second) shape base is = tt
found_near old new equation (Complete sound) shape base is = tt
found_near old new equation (Found position media) shape base is =
    let near = slot_is_near equation position shape is.0.0 in
    let last = near.last in
    let span = near.span in
    omega (arith, last, span, base)
