-- The times of received words, as a desk keeps them.
use Rattle.std.proofs.Common.{◌≡◌, ◌≢◌, ◌+◌, ◌<◌, ◌≤◌, ◌==◌, ℕ, Bool, true, false, cond, ltb, List, [], ◌∷◌, map, max, Option, Some, None, IfSome, IfNone, option_map, refl, sym, ap, subst, ◌∙◌, ⊎_elim, arith, lt-ltb, le-ltb, ne_eqb}
use Rattle.std.proofs.lemmas.Bool.{cases_lt, cases_eq, cond-true, cond-false}
use Rattle.std.proofs.lemmas.Bool.Decides.{Decides-eqb}
use Rattle.std.proofs.lemmas.Option.{none-some}
use Rattle.std.specs.Cmp.{unsigned_tied, nat_cmp_total}
use Rattle.std.specs.Ordering.{nat_cmp, eq_by_cmp}
use Rattle.std.specs.FinMap.{get, insert, empty, entries, get-from_entries, get-entries, same_map, nat_cmp-IsAntisymmetric}
use Rattle.std.specs.FinMap.Entries.{find}
use Rattle.fg_words.specs.declared.Word.{Word}
use Rattle.fg_peel.proofs.Maps.{inserted, beside_inserted, in_empty}
use Rattle.fg_peel.specs.Words.{IsGreatest}
use Rattle.fg_hold.specs.HasWaited.{Times, HasWaited}
use Rattle.fg_hold.specs.Waiting.{WaitingState, Waits, AreFrom, since}
use Rattle.fg_playout.specs.State.{Words}
use Rattle.fg_desk.specs.Holding.{times_of, times_in, IsFrom, ComesAt, Notes, Moves, Tells, Foretells}

-- The time of a position is told of its word, where it has one.
time_found :
    (f : ℕ → ℕ) (q : ℕ) (es : List (ℕ × Word))
    → find nat_cmp q (map (λ (e : ℕ × Word). (e.0, f e.0)) es) ≡ option_map (λ (_ : Word). f q) (find nat_cmp q es)
time_found f q [] = refl
time_found f q (e ∷ es) = ⊎_elim
    (λ here.
    let is : eq_by_cmp nat_cmp q e.0 ≡ true = unsigned_tied q e.0 ∙ (Decides-eqb q e.0).1 here in
    cond-true (eq_by_cmp nat_cmp q e.0) (Some (f e.0)) (find nat_cmp q (map (λ (e : ℕ × Word). (e.0, f e.0)) es)) is
    ∙ ap (λ (n : ℕ). Some (f n)) (sym here)
    ∙ ap (option_map (λ (_ : Word). f q)) (sym (cond-true (eq_by_cmp nat_cmp q e.0) (Some e.1) (find nat_cmp q es) is)))
    (λ beside.
    let is : eq_by_cmp nat_cmp q e.0 ≡ false = unsigned_tied q e.0 ∙ not_equal q e.0 beside in
    cond-false (eq_by_cmp nat_cmp q e.0) (Some (f e.0)) (find nat_cmp q (map (λ (e : ℕ × Word). (e.0, f e.0)) es)) is
    ∙ time_found f q es
    ∙ ap (option_map (λ (_ : Word). f q)) (sym (cond-false (eq_by_cmp nat_cmp q e.0) (Some e.1) (find nat_cmp q es) is)))
    (cases_eq q e.0)
  where
    not_equal : (a b : ℕ) → a ≢ b → a == b ≡ false
    not_equal a b differ = ne_eqb a b differ

pub get-times_of : (media : Words) (f : ℕ → ℕ) (q : ℕ) → get (times_of media f) q ≡ option_map (λ (_ : Word). f q) (get media q)
get-times_of media f q =
    get-from_entries nat_cmp_total (map (λ (e : ℕ × Word). (e.0, f e.0)) (entries media)) q
    ∙ time_found f q (entries media)
    ∙ ap (option_map (λ (_ : Word). f q)) (sym (get-entries media q))

-- Two maps of times are the same where their words stand at the same positions, and have the same times there.
same_times : (one other : Times) → ((q : ℕ) → get one q ≡ get other q) → one ≡ other
same_times one other same = same_map nat_cmp_total nat_cmp-IsAntisymmetric one other same

pub times_of_nothing : (f : ℕ → ℕ) → times_of empty f ≡ empty
times_of_nothing f = same_times (times_of empty f) empty
    (λ q. get-times_of empty f q ∙ ap (option_map (λ (_ : Word). f q)) (in_empty q) ∙ sym (in_empty q))

-- Where each word of the map has the same time by another account, so have all.
option_same : (o : Option Word) (a b : ℕ) → ((word : Word) → o ≡ Some word → a ≡ b) → option_map (λ (_ : Word). a) o ≡ option_map (λ (_ : Word). b) o
option_same None a b same = refl
option_same (Some word) a b same = ap Some (same word refl)

pub times_by :
    (media : Words) (f g : ℕ → ℕ) → ((q : ℕ) (word : Word) → get media q ≡ Some word → f q ≡ g q) → times_of media f ≡ times_of media g
times_by media f g same = same_times (times_of media f) (times_of media g)
    (λ q. get-times_of media f q ∙ option_same (get media q) (f q) (g q) (same q) ∙ sym (get-times_of media g q))

-- One more word comes at this time, and those that were there keep theirs.
pub times_inserted :
    (media : Words) (f g : ℕ → ℕ) (position clock : ℕ) (word : Word) → g position ≡ clock
    → ((q : ℕ) (other : Word) → get media q ≡ Some other → q ≢ position → g q ≡ f q)
    → times_of (insert media position word) g ≡ insert (times_of media f) position clock
times_inserted media f g position clock word here others =
    same_times (times_of (insert media position word) g) (insert (times_of media f) position clock)
    (λ q. ⊎_elim
    (λ same.
    get-times_of (insert media position word) g q
    ∙ ap (option_map (λ (_ : Word). g q)) (inserted media position word q same)
    ∙ ap (λ (n : ℕ). Some (g n)) same
    ∙ ap Some here
    ∙ sym (inserted (times_of media f) position clock q same))
    (λ beside.
    get-times_of (insert media position word) g q
    ∙ ap (option_map (λ (_ : Word). g q)) (beside_inserted media position word q beside)
    ∙ option_same (get media q) (g q) (f q) (λ other is. others q other is beside)
    ∙ sym (get-times_of media f q)
    ∙ sym (beside_inserted (times_of media f) position clock q beside))
    (cases_eq q position))

-- What is left of the words has the times that it had.
pub times_left :
    (mark : ℕ) (media left : Words) (f g : ℕ → ℕ) → ((q : ℕ) → g q ≡ f q) → IsFrom mark media left
    → (q : ℕ) → get (times_of left g) q ≡ cond (ltb q mark) None (get (times_of media f) q)
times_left mark media left f g same from q =
    get-times_of left g q
    ∙ ap (option_map (λ (_ : Word). g q)) (from q)
    ∙ go (ltb q mark)
    ∙ ap (λ (o : Option ℕ). cond (ltb q mark) None o) (sym (get-times_of media f q))
  where
    go : (b : Bool) → option_map (λ (_ : Word). g q) (cond b None (get media q)) ≡ cond b None (option_map (λ (_ : Word). f q) (get media q))
    go true = refl
    go false = option_same (get media q) (g q) (f q) (λ word is. same q)

-- Of a word that is left it was told before.
pub was_there : (mark : ℕ) (media left : Words) (position : ℕ) (word : Word) → IsFrom mark media left → get left position ≡ Some word
    → (mark ≤ position) × (get media position ≡ Some word)
was_there mark media left position word from is = ⊎_elim
    (λ below. absurd (none-some word (sym (from position ∙ cond-true (ltb position mark) None (get media position) (lt-ltb position mark below)) ∙ is)))
    (λ ahead. (ahead, sym (from position ∙ cond-false (ltb position mark) None (get media position) (le-ltb position mark ahead)) ∙ is))
    (cases_lt position mark)

pub no_time : (media : Words) (f : ℕ → ℕ) (q : ℕ) → get media q ≡ None → get (times_of media f) q ≡ None
no_time media f q none = get-times_of media f q ∙ ap (option_map (λ (_ : Word). f q)) none

inserted_near :
    (mark : ℕ) (media : Words) (position : ℕ) (word : Word)
    → ((q : ℕ) (other : Word) → get media q ≡ Some other → (mark ≤ q) × (q < mark + 1000))
    → mark ≤ position → position < mark + 1000
    → (q : ℕ) (other : Word) → get (insert media position word) q ≡ Some other → (mark ≤ q) × (q < mark + 1000)
inserted_near mark media position word all ahead near q other is = ⊎_elim
    (λ same. (omega (arith, same, ahead), omega (arith, same, near)))
    (λ beside. all q other (sym (beside_inserted media position word q beside) ∙ is))
    (cases_eq q position)

-- A word comes whose time is noted.
module _
    (old : WaitingState) (position : ℕ) (new : WaitingState) (some : 0 < old.hold) (hold : new.hold ≡ old.hold)
    (clock : new.clock ≡ old.clock) (here : since new position ≡ old.clock)
    (others : (other : ℕ) → other ≢ position → other < position + 1024 → position < other + 1024 → since new other ≡ since old other)
    (waits :
    (mark : ℕ) (times : Times) → Waits old mark times → mark ≤ position → position < mark + 1000 → get times position ≡ None
    → Waits new mark (insert times position old.clock)) where
  noted_times :
      (mark : ℕ) (media : Words) (word : Word) → ComesAt old mark media position
      → times_in new (insert media position word) ≡ insert (times_in old media) position old.clock
  noted_times mark media word comes = times_inserted media (since old) (since new) position old.clock word here
      (λ q other is beside.
      let near = comes.timed.near q other is in
      let ahead = comes.ahead in
      let within = comes.near in
      others q beside (omega (arith, near, ahead)) (omega (arith, near, within)))

  pub notes_put : Notes old position new
  notes_put = record {
    hold = hold;
    clock = clock;
    timed = λ mark media word comes. record {
      near = inserted_near mark media position word comes.timed.near comes.ahead comes.near;
      limited = λ _. subst (Waits new mark) (sym (noted_times mark media word comes))
          (waits mark (times_in old media) (comes.timed.limited some) comes.ahead comes.near (no_time media (since old) position comes.none));
      unlimited = λ none. absurd (omega (arith, none, hold, some));
    };
    times = noted_times;
  }

-- Where words may wait for ever, nothing is noted.
pub notes_nothing : (old : WaitingState) (position : ℕ) → old.hold ≡ 0 → Notes old position old
notes_nothing old position none = record {
  hold = refl;
  clock = refl;
  timed = λ mark media word comes. record {
    near = inserted_near mark media position word comes.timed.near comes.ahead comes.near;
    limited = λ some. absurd (omega (arith, none, some));
    unlimited = comes.timed.unlimited;
  };
  times = λ mark media word comes.
      (let forever = comes.timed.unlimited none in
      times_inserted media (since old) (since old) position old.clock word (forever.1 position ∙ sym forever.0)
      (λ q other is beside. refl));
}

left_near :
    (before mark : ℕ) (media left : Words) → before ≤ mark → IsFrom mark media left
    → ((q : ℕ) (other : Word) → get media q ≡ Some other → (before ≤ q) × (q < before + 1000))
    → (q : ℕ) (other : Word) → get left q ≡ Some other → (mark ≤ q) × (q < mark + 1000)
left_near before mark media left moves from all q other is =
    let was = was_there mark media left q other from is in
    let near = all q other was.1 in
    (was.0, omega (arith, near, moves))

-- The mark moves on.
pub moves_on :
    (old : WaitingState) (mark : ℕ) (new : WaitingState) → new.hold ≡ old.hold → new.clock ≡ old.clock
    → ((position : ℕ) → since new position ≡ since old position)
    → ((before : ℕ) (times left : Times) → Waits old before times → before ≤ mark → AreFrom mark times left → Waits new mark left)
    → Moves old mark new
moves_on old mark new hold clock same waits = record {
  hold = hold;
  clock = clock;
  timed = λ before media left timed moves from. record {
    near = left_near before mark media left moves from timed.near;
    limited = λ some. waits before (times_in old media) (times_in new left) (timed.limited (omega (arith, some, hold))) moves
        (times_left mark media left (since old) (since new) same from);
    unlimited = λ none.
        (let forever = timed.unlimited (sym hold ∙ none) in (clock ∙ forever.0, λ p. same p ∙ forever.1 p));
  };
  times = λ media left from. times_left mark media left (since old) (since new) same from;
}

pub moves_nothing : (old : WaitingState) (mark : ℕ) → old.hold ≡ 0 → Moves old mark old
moves_nothing old mark none = record {
  hold = refl;
  clock = refl;
  timed = λ before media left timed moves from. record {
    near = left_near before mark media left moves from timed.near;
    limited = λ some. absurd (omega (arith, none, some));
    unlimited = timed.unlimited;
  };
  times = λ media left from. times_left mark media left (since old) (since old) (λ p. refl) from;
}

-- A time is told.
pub tells :
    (old : WaitingState) (time mark : ℕ) (result : Option ℕ) (new : WaitingState) → 0 < old.hold → new.hold ≡ old.hold
    → new.clock ≡ max old.clock time → ((position : ℕ) → since new position ≡ since old position)
    → ((times : Times) → Waits old mark times → Waits new mark times)
    → ((times : Times) → Waits old mark times → IfSome result (IsGreatest (HasWaited new.hold new.clock times)))
    → ((times : Times) → Waits old mark times → IfNone result ((position : ℕ) → ¬ HasWaited new.hold new.clock times position))
    → Tells old time mark result new
tells old time mark result new some hold clock same waits greatest none = record {
  hold = hold;
  clock = clock;
  timed = λ media timed. record {
    near = timed.near;
    limited = λ _. subst (Waits new mark) (sym (told_times media)) (waits (times_in old media) (timed.limited some));
    unlimited = λ none. absurd (omega (arith, none, hold, some));
  };
  times = told_times;
  some = λ media timed. subst (λ (ts : Times). IfSome result (IsGreatest (HasWaited new.hold new.clock ts))) (sym (told_times media))
      (greatest (times_in old media) (timed.limited some));
  none = λ media timed. subst (λ (ts : Times). IfNone result ((position : ℕ) → ¬ HasWaited new.hold new.clock ts position))
      (sym (told_times media)) (none (times_in old media) (timed.limited some));
}
  where
    told_times : (media : Words) → times_in new media ≡ times_in old media
    told_times media = times_by media (since new) (since old) (λ q word is. same q)

-- A time that isn't told yet.
pub foretells :
    (waiting : WaitingState) (time mark : ℕ) (result : Option ℕ) → 0 < waiting.hold
    → ((times : Times) → Waits waiting mark times → IfSome result (IsGreatest (HasWaited waiting.hold (max waiting.clock time) times)))
    → ((times : Times) → Waits waiting mark times
    → IfNone result ((position : ℕ) → ¬ HasWaited waiting.hold (max waiting.clock time) times position))
    → Foretells waiting time mark result
foretells waiting time mark result limited greatest none = record {
  some = λ media timed. go media result (greatest (times_in waiting media) (timed.limited limited));
  none = λ media timed _. none (times_in waiting media) (timed.limited limited);
}
  where
    go :
        (media : Words) (r : Option ℕ) → IfSome r (IsGreatest (HasWaited waiting.hold (max waiting.clock time) (times_in waiting media)))
        → IfSome r (λ n. (0 < waiting.hold) × IsGreatest (HasWaited waiting.hold (max waiting.clock time) (times_in waiting media)) n)
    go media None is = is
    go media (Some n) is = (limited, is)

pub foretells_nothing : (waiting : WaitingState) (time mark : ℕ) → waiting.hold ≡ 0 → Foretells waiting time mark None
foretells_nothing waiting time mark forever = record {
  some = λ media timed. tt;
  none = λ media timed some. absurd (omega (arith, forever, some));
}
