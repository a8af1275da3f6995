-- The queue of a search: each line that isn't queued is complete, or watches two slots that lack flags.
use Rattle.std.proofs.Common.{◌≡◌, ◌≢◌, ◌⊎◌, ◌+◌, ◌-◌, ◌*◌, ◌<◌, ◌≤◌, ℕ, zero, suc, Bool, true, false, not, cond, List, [], ◌∷◌, length, get_or, Option, Some, None, Contains, inl, inr, refl, sym, ap, subst, ◌∙◌, ⊎_elim, arith, get_or-set_other, get_or-set_same}
use Rattle.std.proofs.Math.ListN.{set}
use Rattle.std.proofs.lemmas.List.{length-set}
use Rattle.std.proofs.lemmas.List.Sums.{sum_by-set, count_by-le-length}
use Rattle.std.proofs.lemmas.Bool.{cases_lt, cases_eq}
use Rattle.std.proofs.lemmas.Option.{none-some, same_Some}
use Rattle.std.specs.Prelude.{count_by}
use Rattle.fg_buffer.specs.Watches.{WatchState, IsQueued, Adds, TakesOut, WatchesAt, Wakes, first_of, second_of, nowhere}
use Rattle.fg_closure.specs.declared.search.LineSlots.{LineSlots}
use Rattle.fg_closure.specs.declared.search.Lacking.{Lacking}
use Rattle.fg_closure.specs.declared.search.Lacking.TheVariants.{Nothing, One, Several}
use Rattle.fg_closure.specs.Flags.{IsFlagged, slots_at, HasFlags, AreWithout, IsFilled, NothingFollows}
use Rattle.fg_closure.specs.Watched.{EachIsQueued, IsWatched, EachIsWatched, EachIsWatchedBut, left_to_look, Follows}
use Rattle.fg_closure.proofs.Misses.{slot_within}
use Rattle.fg_closure.proofs.Searches.{true_within, set_was, filled_keeps, complete_now}

-- A place with a line is one of the table's.
pub line_within : (lines : List (Option LineSlots)) (place : ℕ) (line : LineSlots) → get_or lines place None ≡ Some line → place < length lines
line_within [] place line is = absurd (none-some line is)
line_within (first ∷ lines) zero line is = omega arith
line_within (first ∷ lines) (suc place) line is = let rest = line_within lines place line is in omega (arith, rest)

-- One more line, which is queued.
pub queued_more : (lines : List (Option LineSlots)) (place : ℕ) (copy : LineSlots) (watches then : WatchState) → place < length lines
    → Adds place watches then → EachIsQueued lines watches → EachIsQueued (set lines place (Some copy)) then
queued_more lines place copy watches then within adds queued other line is = ⊎_elim
    (λ same. subst (λ (p : ℕ). IsQueued then p) (sym same) adds.added)
    (λ differ. adds.still other (queued other line (sym (get_or-set_other lines place other (Some copy) None differ) ∙ is)))
    (cases_eq other place)

-- Where one place is taken out of the queue, all others are watched.
pub watched_but : (first place : ℕ) (lines : List (Option LineSlots)) (watches then : WatchState) (flags : List Bool)
    → TakesOut place watches then → EachIsWatched first lines watches flags → EachIsWatchedBut place first lines then flags
watched_but first place lines watches then flags out watched other line differ is = ⊎_elim
    (λ queued. inl (
    ap (λ (q : List Bool). get_or q other false) out.taken
    ∙ get_or-set_other watches.queued place other false false differ ∙ queued))
    (λ rest. inr (⊎_elim (λ all. inl all)
    (λ two. inr (
    subst (λ (q : ℕ). AreWithout (IsFlagged first flags) (slots_at line) (Several q (second_of then other)))
    (ap (λ (xs : List ℕ). get_or xs other 0) (sym out.first))
    (subst (λ (q : ℕ). AreWithout (IsFlagged first flags) (slots_at line) (Several (first_of watches other) q))
    (ap (λ (xs : List ℕ). get_or xs other 0) (sym out.second)) two)))
    rest))
    (watched other line is)

-- Where none is queued, nothing follows.
pub nothing_follows : (first : ℕ) (lines : List (Option LineSlots)) (watches : WatchState) (flags : List Bool)
    → ((place : ℕ) → ¬ IsQueued watches place) → EachIsWatched first lines watches flags
    → (place : ℕ) (line : LineSlots) → get_or lines place None ≡ Some line → NothingFollows first flags line
nothing_follows first lines watches flags none watched place line is = ⊎_elim
    (λ queued. absurd (none place queued))
    (λ rest. ⊎_elim (λ all. inl all) (λ two. inr (first_of watches place, second_of watches place, two)) rest)
    (watched place line is)

-- No line, no look.
pub watched_without : (first place : ℕ) (lines : List (Option LineSlots)) (watches : WatchState) (flags : List Bool)
    → get_or lines place None ≡ None → EachIsWatchedBut place first lines watches flags → EachIsWatched first lines watches flags
watched_without first place lines watches flags none watched other line is = ⊎_elim
    (λ same. absurd (none-some line (sym none ∙ ap (λ p. get_or lines p None) (sym same) ∙ is)))
    (λ differ. watched other line differ is)
    (cases_eq other place)

-- After a look at a line.
module _ (first place : ℕ) (lines : List (Option LineSlots)) (old new : List Bool) (line : LineSlots)
    (has : HasFlags first (length old) line) (here : get_or lines place None ≡ Some line) (size : length lines ≡ 512) where
  -- What another line watches stays without a flag, or it is queued.
  other_watched : (missing : Lacking) (watches then : WatchState)
      → AreWithout (IsFlagged first old) (slots_at line) missing → IsFilled first old missing new → Follows missing place watches then
      → (other : ℕ) (theirs : LineSlots) → other ≢ place → get_or lines other None ≡ Some theirs
      → IsWatched first watches old other theirs → IsWatched first then new other theirs
  other_watched Nothing watches then told filled follows other theirs differ is watched = ⊎_elim
      (λ queued. inl (ap (λ (q : List Bool). get_or q other false) follows.queued ∙ queued))
      (λ rest. inr (⊎_elim
      (λ all. inl (λ slot c. filled_keeps first (length old) line old new Nothing has told filled slot (all slot c)))
      (λ two. inr (
      subst (λ (f : List Bool). AreWithout (IsFlagged first f) (slots_at theirs) (Several (first_of then other) (second_of then other))) (sym filled)
      (subst (λ (q : ℕ). AreWithout (IsFlagged first old) (slots_at theirs) (Several q (second_of then other))) (sym (follows.other_first other differ))
      (subst (λ (q : ℕ). AreWithout (IsFlagged first old) (slots_at theirs) (Several (first_of watches other) q)) (sym (follows.other_second other differ)) two))))
      rest))
      watched
  other_watched (Several one another) watches then told filled follows other theirs differ is watched = ⊎_elim
      (λ queued. inl (ap (λ (q : List Bool). get_or q other false) follows.queued ∙ queued))
      (λ rest. inr (⊎_elim
      (λ all. inl (λ slot c. filled_keeps first (length old) line old new (Several one another) has told filled slot (all slot c)))
      (λ two. inr (
      subst (λ (f : List Bool). AreWithout (IsFlagged first f) (slots_at theirs) (Several (first_of then other) (second_of then other))) (sym filled)
      (subst (λ (q : ℕ). AreWithout (IsFlagged first old) (slots_at theirs) (Several q (second_of then other))) (sym (follows.other_first other differ))
      (subst (λ (q : ℕ). AreWithout (IsFlagged first old) (slots_at theirs) (Several (first_of watches other) q)) (sym (follows.other_second other differ)) two))))
      rest))
      watched
  other_watched (One position) watches then told filled follows other theirs differ is watched =
      let between = follows.0 in
      let left = follows.1 in
      let wakes = follows.2 in
      let within = line_within lines other theirs is in
      let from = (slot_within first (length old) line position has told.0).0 in
      let below : other < 512 = omega (arith, within, size) in
      let first_is : first_of then other ≡ first_of watches other =
      ap (λ (xs : List ℕ). get_or xs other 0) wakes.first ∙ left.other_first other differ in
      let second_is : second_of then other ≡ second_of watches other =
      ap (λ (xs : List ℕ). get_or xs other 0) wakes.second ∙ left.other_second other differ in
      let unset : (q : ℕ) → q ≢ position → (¬ IsFlagged first old q) → ¬ IsFlagged first new q =
      λ q differs was now. was (set_was first position q old from differs (subst (λ (f : List Bool). IsFlagged first f q) filled now)) in
      ⊎_elim
      (λ queued. inl (wakes.still other (ap (λ (q : List Bool). get_or q other false) left.queued ∙ queued)))
      (λ rest. ⊎_elim
      (λ all. inr (inl (λ slot c. filled_keeps first (length old) line old new (One position) has told filled slot (all slot c))))
      (λ two. ⊎_elim
      (λ same. inl (wakes.woken other below (inl (left.other_first other differ ∙ same))))
      (λ apart. ⊎_elim
      (λ same. inl (wakes.woken other below (inr (left.other_second other differ ∙ same))))
      (λ apart'. inr (inr (
      subst (λ (q : ℕ). AreWithout (IsFlagged first new) (slots_at theirs) (Several q (second_of then other))) (sym first_is)
      (subst (λ (q : ℕ). AreWithout (IsFlagged first new) (slots_at theirs) (Several (first_of watches other) q)) (sym second_is)
      (two.0, two.1, two.2, unset (first_of watches other) apart two.3, unset (second_of watches other) apart' two.4)))))
      (cases_eq (second_of watches other) position))
      (cases_eq (first_of watches other) position))
      rest)
      watched

  -- It watches two slots itself, or is complete.
  this_watched : (missing : Lacking) (watches then : WatchState)
      → AreWithout (IsFlagged first old) (slots_at line) missing → IsFilled first old missing new → Follows missing place watches then
      → IsWatched first then new place line
  this_watched Nothing watches then told filled follows = inr (inl (complete_now first line old new Nothing has told filled (λ one other is. cc)))
  this_watched (One position) watches then told filled follows =
      inr (inl (complete_now first line old new (One position) has told filled (λ one other is. cc)))
  this_watched (Several one other) watches then told filled follows = inr (inr (
      subst (λ (f : List Bool). AreWithout (IsFlagged first f) (slots_at line) (Several (first_of then place) (second_of then place))) (sym filled)
      (subst (λ (q : ℕ). AreWithout (IsFlagged first old) (slots_at line) (Several q (second_of then place))) (sym follows.first_is)
      (subst (λ (q : ℕ). AreWithout (IsFlagged first old) (slots_at line) (Several one q)) (sym follows.second_is) told))))

  pub looked_at : (missing : Lacking) (watches then : WatchState)
      → AreWithout (IsFlagged first old) (slots_at line) missing → IsFilled first old missing new → Follows missing place watches then
      → EachIsWatchedBut place first lines watches old → EachIsWatched first lines then new
  looked_at missing watches then told filled follows watched other theirs is = ⊎_elim
      (λ same. subst (λ (p : ℕ). IsWatched first then new p theirs) (sym same)
      (subst (λ (l : LineSlots). IsWatched first then new place l)
      (same_Some line theirs (sym here ∙ ap (λ p. get_or lines p None) (sym same) ∙ is))
      (this_watched missing watches then told filled follows)))
      (λ differ. other_watched missing watches then told filled follows other theirs differ is (watched other theirs differ is))
      (cases_eq other place)

-- What is left to look at

abbrev queue_count : WatchState → ℕ
queue_count watches = count_by (λ (queued : Bool). queued) watches.queued

-- A place that is taken out.
pub fewer_queued : (place : ℕ) (flags : List Bool) (watches then : WatchState) → TakesOut place watches then
    → left_to_look flags then < left_to_look flags watches
fewer_queued place flags watches then out =
    let size = out.count in
    let less = out.within in
    let within : place < length watches.queued = omega (arith, size, less) in
    let changed = sum_by-set (λ (b : Bool). cond b 1 0) watches.queued place false false within in
    let was : ◌≡◌ {A = ℕ} (cond (get_or watches.queued place false) 1 0) 1 = ap (λ (b : Bool). cond b 1 0) out.was in
    let is : queue_count then ≡ count_by (λ (b : Bool). b) (set watches.queued place false) =
    ap (λ (bs : List Bool). count_by (λ (b : Bool). b) bs) out.taken in
    omega (arith, changed, was, is)

pub taken_size : (place : ℕ) (watches then : WatchState) → TakesOut place watches then → length then.queued ≡ 512
taken_size place watches then out = ap length out.taken ∙ length-set watches.queued place false ∙ out.count

-- A flag that is set.
fewer_unset : (flags : List Bool) (k : ℕ) → k < length flags → get_or flags k false ≡ false
    → count_by not (set flags k true) + 1 ≡ count_by not flags
fewer_unset flags k within unset =
    let changed = sum_by-set (λ (b : Bool). cond (not b) 1 0) flags k true false within in
    let was : ◌≡◌ {A = ℕ} (cond (not (get_or flags k false)) 1 0) 1 = ap (λ (b : Bool). cond (not b) 1 0) unset in
    omega (arith, changed, was)

is_false : (b : Bool) → ¬ (b ≡ true) → b ≡ false
is_false true n = absurd (n refl)
is_false false n = refl

pub no_more_left : (first place : ℕ) (line : LineSlots) (old new : List Bool) (missing : Lacking) (watches then : WatchState)
    → HasFlags first (length old) line → AreWithout (IsFlagged first old) (slots_at line) missing → IsFilled first old missing new
    → Follows missing place watches then → length watches.queued ≡ 512 → left_to_look new then ≤ left_to_look old watches
no_more_left first place line old new Nothing watches then has told filled follows size =
    let a : count_by not new ≡ count_by not old = ap (λ (f : List Bool). count_by not f) filled in
    let b : queue_count then ≡ queue_count watches = ap (λ (bs : List Bool). count_by (λ (b : Bool). b) bs) follows.queued in
    omega (arith, a, b)
no_more_left first place line old new (Several one other) watches then has told filled follows size =
    let a : count_by not new ≡ count_by not old = ap (λ (f : List Bool). count_by not f) filled in
    let b : queue_count then ≡ queue_count watches = ap (λ (bs : List Bool). count_by (λ (b : Bool). b) bs) follows.queued in
    omega (arith, a, b)
no_more_left first place line old new (One position) watches then has told filled follows size =
    let slot = slot_within first (length old) line position has told.0 in
    let unset = is_false (get_or old (position - first) false) (λ set. told.1 (slot.0, set)) in
    let a : count_by not new ≡ count_by not (set old (position - first) true) = ap (λ (f : List Bool). count_by not f) filled in
    let fewer = fewer_unset old (position - first) slot.1 unset in
    let count : length then.queued ≡ 512 = follows.2.count (ap length follows.1.queued ∙ size) in
    let most = count_by-le-length (λ (b : Bool). b) then.queued in
    omega (arith, a, fewer, count, most)
