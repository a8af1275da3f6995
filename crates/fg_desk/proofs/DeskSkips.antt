-- Windows that show nothing are passed at once.
use Rattle.std.proofs.Common.{◌≡◌, ◌≢◌, ◌+◌, ◌-◌, ◌<◌, ◌≤◌, ◌^◌, ◌&&◌, ℕ, Bool, true, false, cond, leb, List, [], ◌∷◌, map, length, true≢false, Option, Some, None, is_some, not, option_map, refl, sym, ap, subst, ◌∙◌, ⊎_elim, arith, lt-ltb, le-ltb}
use Rattle.std.proofs.lemmas.Bool.{cases_lt, cases_eq}
use Rattle.std.proofs.lemmas.Option.{none-some}
use Rattle.std.specs.List.{Contains}
use Rattle.std.specs.Option.{option_or}
use Rattle.std.specs.Cmp.{nat_cmp_total}
use Rattle.std.specs.FinMap.{get, len, entries, len-entries, same_map, nat_cmp-IsAntisymmetric}
use Rattle.fg_words.specs.declared.Word.{Word}
use Rattle.fg_peel.specs.Equation.{Equation}
use Rattle.fg_peel.specs.Peeling.{Step, IsPeeling, end_of}
use Rattle.fg_peel.proofs.Lists.{Contains-nil}
use Rattle.fg_peel.proofs.Options.{none_or_some, none_has_no_value, has_value}
use Rattle.fg_hold.specs.Waiting.{WaitingState}
use Rattle.fg_playout.specs.State.{State, Live, known, live_equations}
use Rattle.fg_playout.specs.Admission.{kept_count}
use Rattle.fg_playout.specs.Facts.{Holds}
use Rattle.fg_playout.specs.Empty.{IsEmptyBefore, Skips}
use Rattle.fg_playout.proofs.Equations.{live_at}
use Rattle.fg_playout.proofs.EmptyWindows.{empty_windows_keep}
use Rattle.fg_buffer.specs.PlayoutBuffer.{BufferState, buffer_received, buffer_known, buffer_words}
use Rattle.fg_buffer.specs.LiveEquations.{LiveState}
use Rattle.fg_buffer.proofs.Choices.{if-less, if-not_less}
use Rattle.fg_desk.specs.declared.desk.Desk.TheInside.{Inside}
use Rattle.fg_desk.specs.declared.desk.Farthest.{Farthest}
use Rattle.fg_desk.specs.Contents.{Contents}
use Rattle.fg_desk.specs.Holding.{times_in, IsFrom, AreTimed}
use Rattle.fg_desk.specs.Inside.{Parts, AreSound, AreLimited, SettledComeOut, state_of, contents_of}
use Rattle.fg_desk.specs.Parts.{top_of, parts_of, IsDesk}
use Rattle.fg_desk.specs.Skipping.{PassesWindows, SkipsTo}
use Rattle.fg_desk.specs.Storage.{equations_in}
use Rattle.fg_desk.specs.Watched.{EachWatched}
use Rattle.fg_desk.proofs.DeskPlays.{sound_without_found}
use Rattle.fg_desk.proofs.DeskWords.{or_neither, received_ahead}

-- No equation is live where there are none.
pub no_equations_in : (lines : LiveState) → len lines.live ≡ 0 → equations_in lines ≡ []
no_equations_in lines none = go (entries lines.live) (omega (arith, none, len-entries lines.live))
  where
    go : (es : List (ℕ × Live)) → length es ≡ 0 → map (λ (e : ℕ × Live). e.1.equation) es ≡ []
    go [] empty = refl
    go (e ∷ es) some = absurd (omega (arith, some))

-- Then a peeling has no step.
peeled_nothing :
    (desk : State) (words : ℕ → Option Word) → live_equations desk ≡ [] → (steps : List Step)
    → IsPeeling (known desk) (live_equations desk) steps → words ≡ end_of (known desk) steps → words ≡ known desk
peeled_nothing desk words none [] peeling is = is
peeled_nothing desk words none (step ∷ steps) peeling is =
    absurd (Contains-nil step.equation (subst (λ (l : List Equation). Contains l step.equation) none peeling.0.listed))

-- A run was begun.
pub opened_by : (top : Option Farthest) (b : Bool) → is_some top ≡ not b → b ≡ false → top ≢ None
opened_by None b is some none = true≢false (sym (is ∙ ap not some))
opened_by (Some top) b is some none = none-some top (sym none)

-- The parts then, as the fields have them.
abbrev pub after_skip : Inside → BufferState → WaitingState → ℕ → Parts
after_skip a new rest count = record (parts_of a) {
  playout = record { window = a.window; depth = a.depth; hold = rest.hold };
  buffer = new;
  clock = rest.clock;
  times = times_in rest new.media;
  calls = a.calls + count;
}

-- No window was passed.
nothing_skipped :
    (a : Inside) (new : BufferState) (rest : WaitingState) (count : ℕ) → new ≡ a.buffer → rest ≡ a.waiting → count ≡ 0
    → after_skip a new rest count ≡ parts_of a
nothing_skipped a new rest count buffer waiting none =
    let calls : a.calls + count ≡ a.calls = omega (arith, none) in λ i. record (parts_of a) {
      playout = record { window = a.window; depth = a.depth; hold = (waiting i).hold };
      buffer = buffer i;
      clock = (waiting i).clock;
      times = times_in (waiting i) (buffer i).media;
      calls = calls i;
    }

-- Some were.
module _
    (a : Inside) (desk : IsDesk a) (until count : ℕ) (new : BufferState) (rest : WaitingState)
    (passes : PassesWindows a.window until (2 ^ 62 - a.calls) count a.lines a.buffer a.waiting new rest) (opened : a.top ≢ None) where
  abbrev parts : Parts
  parts = parts_of a

  abbrev skipped : Parts
  skipped = record parts { buffer = new; calls = a.calls + count }

  words_known : (q : ℕ) → buffer_words a.buffer q ≡ known (state_of parts) q
  words_known q =
      let all = desk.sound.peeled in
      ap (λ (f : ℕ → Option Word). f q) (peeled_nothing (state_of parts) (buffer_words a.buffer) passes.equations all.0 all.1 all.2)

  told_known : (q : ℕ) → buffer_known a.buffer q ≡ known (state_of parts) q
  told_known q =
      let all = desk.sound.solved in
      ap (λ (f : ℕ → Option Word). f q) (peeled_nothing (state_of parts) (buffer_known a.buffer) passes.equations all.0 all.1 all.2)

  unsolved : (q : ℕ) → get a.buffer.solved q ≡ None
  unsolved q = ⊎_elim (λ is. is)
      (λ some.
      let beside = desk.sound.beside q (has_value (get a.buffer.solved q) some.0 some.1) in
      let received : buffer_received a.buffer q ≡ None = received_ahead a.buffer q beside.0 ∙ beside.1 in
      absurd (none-some some.0 (sym received ∙ sym (told_known q)
      ∙ ap (λ (o : Option Word). option_or o (get a.buffer.solved q)) received ∙ some.1)))
      (none_or_some (get a.buffer.solved q))

  uncached : (q : ℕ) → get a.buffer.cached q ≡ None
  uncached q = ⊎_elim (λ is. is)
      (λ some.
      let unknown : buffer_known a.buffer q ≡ None = passes.facts.once q (has_value (get a.buffer.cached q) some.0 some.1) in
      absurd (none-some some.0 (sym unknown ∙ told_known q ∙ sym (words_known q)
      ∙ ap (λ (o : Option Word). option_or o (get a.buffer.cached q)) unknown ∙ some.1)))
      (none_or_some (get a.buffer.cached q))

  rises : a.buffer.mark ≤ new.mark
  rises = let m = passes.advances.mark in omega (arith, m)

  no_media : (q : ℕ) → q < new.mark → get a.buffer.media q ≡ None
  no_media q below = ⊎_elim (λ is. is)
      (λ some.
      let ahead = (passes.facts.media q (has_value (get a.buffer.media q) some.0 some.1)).0 in
      sym (received_ahead a.buffer q ahead)
      ∙ (or_neither (buffer_received a.buffer q) (get a.buffer.solved q)
      (or_neither (buffer_known a.buffer q) (get a.buffer.cached q) (passes.empty q ahead below)).0).0)
      (none_or_some (get a.buffer.media q))

  media_same : new.media ≡ a.buffer.media
  media_same = same_map nat_cmp_total nat_cmp-IsAntisymmetric new.media a.buffer.media
      (λ q. passes.advances.media q ∙ ⊎_elim
      (λ below. if-less q new.mark None (get a.buffer.media q) below ∙ sym (no_media q below))
      (λ ahead. if-not_less q new.mark None (get a.buffer.media q) ahead)
      (cases_lt q new.mark))

  no_time : (q : ℕ) → q < new.mark → get (times_in a.waiting a.buffer.media) q ≡ None
  no_time q below = ⊎_elim (λ is. is)
      (λ some. absurd (none_has_no_value (get a.buffer.media q) (no_media q below)
      (sym (desk.sound.facts.timed q) ∙ has_value (get (times_in a.waiting a.buffer.media) q) some.0 some.1)))
      (none_or_some (get (times_in a.waiting a.buffer.media) q))

  from : IsFrom new.mark a.buffer.media new.media
  from = passes.advances.media

  times_same : times_in rest new.media ≡ times_in a.waiting a.buffer.media
  times_same = same_map nat_cmp_total nat_cmp-IsAntisymmetric (times_in rest new.media) (times_in a.waiting a.buffer.media)
      (λ q. passes.moves.times a.buffer.media new.media from q ∙ ⊎_elim
      (λ below. if-less q new.mark None (get (times_in a.waiting a.buffer.media) q) below ∙ sym (no_time q below))
      (λ ahead. if-not_less q new.mark None (get (times_in a.waiting a.buffer.media) q) ahead)
      (cases_lt q new.mark))

  skipped_is : after_skip a new rest count ≡ skipped
  skipped_is = λ i. record parts {
    playout = record { window = a.window; depth = a.depth; hold = passes.moves.hold i };
    buffer = new;
    clock = passes.moves.clock i;
    times = times_same i;
    calls = a.calls + count;
  }

  empty_before : IsEmptyBefore (state_of parts) new.mark
  empty_before = record { equations = passes.equations; media = no_media }

  -- The words that are still kept were kept before.
  nothing_kept : (q : ℕ) → a.buffer.mark ≤ q → get a.buffer.kept q ≡ None
  nothing_kept q ahead = ⊎_elim (λ is. is)
      (λ some.
      let below = (passes.facts.kept q (has_value (get a.buffer.kept q) some.0 some.1)).0 in absurd (omega (arith, below, ahead)))
      (none_or_some (get a.buffer.kept q))

  still_kept : (q : ℕ) → q < new.mark → buffer_words a.buffer q ≡ get a.buffer.kept q
  still_kept q below = ⊎_elim
      (λ before. words_known q ∙ if-less q a.buffer.mark (get a.buffer.kept q) (get a.buffer.media q) before)
      (λ ahead. passes.empty q ahead below ∙ sym (nothing_kept q ahead))
      (cases_lt q a.buffer.mark)

  kept_is : (q : ℕ) → get new.kept q ≡ cond (leb new.mark (q + kept_count)) (get a.buffer.kept q) None
  kept_is q = passes.advances.kept q ∙ ⊎_elim
      (λ below.
      ap (λ (b : Bool). cond (b && leb new.mark (q + kept_count)) (buffer_words a.buffer q) None) (lt-ltb q new.mark below)
      ∙ ap (λ (o : Option Word). cond (leb new.mark (q + kept_count)) o None) (still_kept q below))
      (λ ahead.
      ap (λ (b : Bool). cond (b && leb new.mark (q + kept_count)) (buffer_words a.buffer q) None) (le-ltb q new.mark ahead)
      ∙ sym (either (leb new.mark (q + kept_count)) (get a.buffer.kept q) (nothing_kept q (let up = rises in omega (arith, up, ahead)))))
      (cases_lt q new.mark)
    where
      either : (b : Bool) (o : Option Word) → o ≡ None → cond b o None ≡ None
      either true o is = is
      either false o is = refl

  are_skips : Skips count (state_of parts) (state_of skipped)
  are_skips = record {
    mark = passes.advances.mark;
    kept = kept_is;
    rest = λ i. record (state_of parts) { mark = new.mark; kept = new.kept; media = media_same i; calls = a.calls + count };
  }

  skipped_holds : Holds (state_of skipped)
  skipped_holds = empty_windows_keep count (state_of parts) (state_of skipped) desk.sound.facts opened_state empty_before are_skips
    where
      go : (top : Option Farthest) → top ≢ None → option_map top_of top ≡ None → ⊥
      go None some none = some refl
      go (Some top) some none = none-some (top_of top) (sym none)

      opened_state : (state_of parts).top ≢ None
      opened_state none = go a.top opened none

  limits : AreLimited skipped
  limits =
      let were = desk.sound.limits in
      let reach = passes.advances.reach in
      let mark = passes.limit in
      let few = passes.few in
      let calls = were.calls_limit in
      let runs = were.runs_limit in
      let admitted = were.admitted_limit in
      let epoch = were.epoch_limit in record {
        depth_limit = were.depth_limit;
        reach_is = reach ∙ were.reach_is;
        mark_limit = omega (arith, mark);
        top_limit = were.top_limit;
        runs_limit = omega (arith, runs);
        admitted_limit = omega (arith, admitted);
        calls_limit = omega (arith, few, calls);
        epoch_limit = omega (arith, epoch);
      }

  nothing_settled : SettledComeOut skipped
  nothing_settled serial live is settled =
      absurd (Contains-nil live.equation (subst (λ (l : List Equation). Contains l live.equation) passes.equations
      (live_at (state_of parts) serial live is)))

  unsolved_after : (q : ℕ) → get new.solved q ≡ None
  unsolved_after q = passes.advances.solved q ∙ ⊎_elim
      (λ below. if-less q new.mark None (get a.buffer.solved q) below)
      (λ ahead. if-not_less q new.mark None (get a.buffer.solved q) ahead ∙ unsolved q)
      (cases_lt q new.mark)

  uncached_after : (q : ℕ) → get new.cached q ≡ None
  uncached_after q = passes.advances.cached q ∙ ⊎_elim
      (λ below. if-less q new.mark None (get a.buffer.cached q) below)
      (λ ahead. if-not_less q new.mark None (get a.buffer.cached q) ahead ∙ uncached q)
      (cases_lt q new.mark)

  some_sound : AreSound (after_skip a new rest count)
  some_sound = subst AreSound (sym skipped_is)
      (sound_without_found skipped limits skipped_holds unsolved_after uncached_after nothing_settled desk.sound.rooms)

  some_timed : AreTimed rest new.mark new.media
  some_timed = passes.moves.timed a.buffer.mark a.buffer.media new.media desk.timed rises from

  some_watched : EachWatched a.watches (buffer_words new) a.lines
  some_watched serial live is open_still =
      absurd (Contains-nil live.equation (subst (λ (l : List Equation). Contains l live.equation) passes.equations
      (live_at (state_of parts) serial live is)))

  some_skipped : SkipsTo until count (contents_of parts) (contents_of (after_skip a new rest count))
  some_skipped = subst (λ (p : Parts). SkipsTo until count (contents_of parts) (contents_of p)) (sym skipped_is) (record {
    facts = desk.sound.facts;
    skips = are_skips;
    empty = empty_before;
    near = passes.near;
    changes = record {
      bare = passes.advances.bare;
      repaired = passes.advances.repaired;
      solved = passes.advances.solved;
      epoch = refl;
    };
  })

-- Some or none were.
module _
    (a : Inside) (desk : IsDesk a) (old : Contents) (view : contents_of (parts_of a) ≡ old) (until count : ℕ) (new : BufferState) (rest : WaitingState)
    (none : count ≡ 0 → (new ≡ a.buffer) × (rest ≡ a.waiting))
    (some : count ≢ 0 → PassesWindows a.window until (2 ^ 62 - a.calls) count a.lines a.buffer a.waiting new rest) (opened : a.top ≢ None) where
  pub sound_after_skip : AreSound (after_skip a new rest count)
  sound_after_skip = ⊎_elim
      (λ is. subst AreSound (sym (nothing_skipped a new rest count (none is).0 (none is).1 is)) desk.sound)
      (λ more. some_sound a desk until count new rest (some more) opened)
      (cases_eq count 0)

  pub timed_after_skip : AreTimed rest new.mark new.media
  timed_after_skip = ⊎_elim
      (λ is.
      subst (λ (w : WaitingState). AreTimed w new.mark new.media) (sym (none is).1)
      (subst (λ (b : BufferState). AreTimed a.waiting b.mark b.media) (sym (none is).0) desk.timed))
      (λ more. some_timed a desk until count new rest (some more) opened)
      (cases_eq count 0)

  pub watched_after_skip : EachWatched a.watches (buffer_words new) a.lines
  watched_after_skip = ⊎_elim
      (λ is. subst (λ (b : BufferState). EachWatched a.watches (buffer_words b) a.lines) (sym (none is).0) desk.watched)
      (λ more. some_watched a desk until count new rest (some more) opened)
      (cases_eq count 0)

  pub none_after_skip : count ≡ 0 → contents_of (after_skip a new rest count) ≡ old
  none_after_skip is = ap contents_of (nothing_skipped a new rest count (none is).0 (none is).1 is) ∙ view

  pub some_after_skip : count ≢ 0 → SkipsTo until count old (contents_of (after_skip a new rest count))
  some_after_skip more =
      subst (λ (c : Contents). SkipsTo until count c (contents_of (after_skip a new rest count))) view
      (some_skipped a desk until count new rest (some more) opened)
