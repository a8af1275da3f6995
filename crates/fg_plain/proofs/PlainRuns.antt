-- What the loops of a plain run keep.
use Rattle.std.proofs.Common.{◌≡◌, ◌+◌, ◌-◌, ◌<◌, ◌≤◌, ◌++◌, ℕ, List, [], ◌∷◌, map, take, length, get_or, Option, Some, Bool, true, false, IsTrue, inl, inr, ⊎_elim, refl, sym, ap, subst, ◌∙◌, arith, append_assoc, length-take}
use Rattle.std.specs.List.{All}
use Rattle.std.proofs.lemmas.List.{append-nil, length-map, map-append, take_more}
use Rattle.std.proofs.lemmas.List.Elements.{All-push}
use Rattle.fg_words.specs.declared.Word.{Word}
use Rattle.fg_shape.specs.Playout.{Playout}
use Rattle.fg_playout.specs.declared.reply.Reply.{Reply}
use Rattle.fg_plain.specs.declared.run.Datagram.{Datagram}
use Rattle.fg_plain.specs.declared.run.ShownPlay.{ShownPlay}
use Rattle.fg_playout.specs.State.{State, opening}
use Rattle.fg_playout.specs.Admission.{IsDue}
use Rattle.fg_plain.specs.declared.run.ShownWord.{ShownWord}
use Rattle.fg_playout.specs.Play.{Play, Shown, nothing_shown, IsPlay, IsFlushStep}
use Rattle.fg_playout.specs.Held.{IsHeldStep}
use Rattle.fg_playout.specs.Run.{Arrival, carries, protects, refused, Takes, TakesAll}
use Rattle.fg_playout.specs.Laws.{IsRead, HavePlayed, HavePlayedBefore, HavePlayedThen, AreFlushSteps, AreHeldSteps, PlaysDueJoin, FlushStepsJoin, HeldStepsJoin, TakingsJoin}
use Rattle.fg_plain.specs.Datagrams.{arrival_of, play_of, shown_word, AreTaken}
use Rattle.fg_playout.proofs.Senders.{fresh_is_decided}

-- A copy more.
added_more :
    (before plays plays' : List ShownPlay) (copy : ShownPlay) (some : List Play) (play : Play)
    → map play_of plays ≡ map play_of before ++ some → play_of copy ≡ play → plays' ≡ plays ++ copy ∷ []
    → map play_of plays' ≡ map play_of before ++ (some ++ play ∷ [])
added_more before plays plays' copy some play added is more =
    ap (λ (ps : List ShownPlay). map play_of ps) more
    ∙ map-append play_of plays (copy ∷ [])
    ∙ ap (λ (p : Play). map play_of plays ++ p ∷ []) is
    ∙ ap (λ (ps : List Play). ps ++ play ∷ []) added
    ∙ append_assoc (map play_of before) some (play ∷ [])

-- The plays that were due so far before a datagram.
pub record HavePlayedSo
    (old : State) (seq ssrc : ℕ) (before : List ShownPlay) (new : State) (plays : List ShownPlay) : Type 0 where
  pub due : List Play
  pub added : map play_of plays ≡ map play_of before ++ due
  pub played : HavePlayed old seq ssrc due new
  pub playout : new.playout ≡ old.playout

pub none_played : (old : State) (seq ssrc : ℕ) (before : List ShownPlay) → HavePlayedSo old seq ssrc before old before
none_played old seq ssrc before = record {
  due = [];
  added = sym (append-nil (map play_of before));
  played = refl;
  playout = refl;
}

pub one_more_played :
    (old between new : State) (seq ssrc : ℕ) (before plays plays' : List ShownPlay) (copy : ShownPlay) (play : Play)
    → PlaysDueJoin → HavePlayedSo old seq ssrc before between plays → IsDue between seq ssrc
    → IsPlay between.playout.window between play new → play_of copy ≡ play → plays' ≡ plays ++ copy ∷ []
    → HavePlayedSo old seq ssrc before new plays'
one_more_played old between new seq ssrc before plays plays' copy play join so due is copied more = record {
  due = so.due ++ play ∷ [];
  added = added_more before plays plays' copy so.due play so.added copied more;
  played = join old between new seq ssrc so.due (play ∷ []) so.played (due, (new, is, refl));
  playout = ap (λ (s : State). s.playout) is.rest ∙ so.playout;
}

-- A play moves the mark nearer to its limit.
pub nearer : (limit mark next count : ℕ) → next ≡ mark + count → 1 ≤ count → mark < limit → limit - next < limit - mark
nearer limit mark next count is some room = omega arith

-- The steps of a flush so far.
pub record HaveFlushedSo (old : State) (before : List ShownPlay) (new : State) (plays : List ShownPlay) : Type 0 where
  pub flushed : List Play
  pub added : map play_of plays ≡ map play_of before ++ flushed
  pub steps : AreFlushSteps old flushed new
  pub playout : new.playout ≡ old.playout

pub none_flushed : (old : State) (before : List ShownPlay) → HaveFlushedSo old before old before
none_flushed old before = record {
  flushed = [];
  added = sym (append-nil (map play_of before));
  steps = refl;
  playout = refl;
}

pub one_more_flushed :
    (old between new : State) (before plays plays' : List ShownPlay) (copy : ShownPlay) (play : Play)
    → FlushStepsJoin → HaveFlushedSo old before between plays → IsFlushStep between play new
    → play_of copy ≡ play → plays' ≡ plays ++ copy ∷ [] → HaveFlushedSo old before new plays'
one_more_flushed old between new before plays plays' copy play join so step copied more = record {
  flushed = so.flushed ++ play ∷ [];
  added = added_more before plays plays' copy so.flushed play so.added copied more;
  steps = join old between new so.flushed (play ∷ []) so.steps (new, step, refl);
  playout = ap (λ (s : State). s.playout) step.plays.rest ∙ so.playout;
}

-- The held steps by a time so far.
pub record HaveHeldSo (old : State) (time : ℕ) (before : List ShownPlay) (new : State) (plays : List ShownPlay) : Type 0 where
  pub held : List Play
  pub added : map play_of plays ≡ map play_of before ++ held
  pub steps : AreHeldSteps old time held new
  pub playout : new.playout ≡ old.playout

pub none_held : (old : State) (time : ℕ) (before : List ShownPlay) → HaveHeldSo old time before old before
none_held old time before = record {
  held = [];
  added = sym (append-nil (map play_of before));
  steps = refl;
  playout = refl;
}

pub one_more_held :
    (old between new : State) (time : ℕ) (before plays plays' : List ShownPlay) (copy : ShownPlay) (play : Play)
    → HeldStepsJoin → HaveHeldSo old time before between plays → IsHeldStep between time (Some play) new
    → play_of copy ≡ play → plays' ≡ plays ++ copy ∷ [] → HaveHeldSo old time before new plays'
one_more_held old between new time before plays plays' copy play join so step copied more = record {
  held = so.held ++ play ∷ [];
  added = added_more before plays plays' copy so.held play so.added copied more;
  steps = join old between new time so.held (play ∷ []) so.steps (new, step, refl);
  playout = ap (λ (s : State). s.playout) step.plays.rest ∙ so.playout;
}

-- A held step moves the mark nearer to its limit.
pub held_nearer :
    (limit : ℕ) (old new : State) (time : ℕ) (play : Play) → IsHeldStep old time (Some play) new → 1 ≤ old.playout.window
    → old.mark < limit → limit - new.mark < limit - old.mark
held_nearer limit old new time play step some room =
    let ahead : old.mark ≤ step.greatest = step.greatest_is.inside.1 in
    let is = step.plays.mark in
    omega (arith, ahead, is, some, room)

-- A flush step moves the mark nearer to its limit.
pub step_nearer :
    (limit : ℕ) (old new : State) (play : Play) → IsFlushStep old play new → 1 ≤ old.playout.window → old.mark < limit
    → limit - new.mark < limit - old.mark
step_nearer limit old new play step some room =
    let more : old.mark ≤ step.highest = step.more in
    let is = step.plays.mark in
    omega (arith, more, is, some, room)

-- What is taken of one datagram more.
pub one_more_taken :
    (playout : Playout) (datagrams datagrams' : List Datagram) (datagram : Datagram) (between new : State)
    (plays plays' : List ShownPlay) (due : List Play) (replies replies' : List (Option Reply)) (reply : Option Reply)
    → TakingsJoin → AreTaken playout datagrams between plays replies
    → datagrams' ≡ datagrams ++ datagram ∷ [] → Takes between (arrival_of datagram) due reply new
    → IsRead (arrival_of datagram) → map play_of plays' ≡ map play_of plays ++ due
    → replies' ≡ replies ++ reply ∷ [] → new.playout ≡ between.playout
    → AreTaken playout datagrams' new plays' replies'
one_more_taken playout datagrams datagrams' datagram between new plays plays' due replies replies' reply join so more takes read added told same =
    let arrivals : map arrival_of datagrams' ≡ map arrival_of datagrams ++ arrival_of datagram ∷ [] =
    ap (λ (ds : List Datagram). map arrival_of ds) more ∙ map-append arrival_of datagrams (datagram ∷ []) in
    let one : TakesAll between (arrival_of datagram ∷ []) due (reply ∷ []) new =
    (due, [], new, sym (append-nil due), takes, (refl, refl, refl)) in
    let joined = join (opening playout) between new (map arrival_of datagrams) (arrival_of datagram ∷ []) (map play_of plays) due replies (reply ∷ []) so.takes one in
    record {
      takes =
          subst (λ (arrivals : List Arrival). TakesAll (opening playout) arrivals (map play_of plays') replies' new) (sym arrivals)
          (subst (λ (ps : List Play). TakesAll (opening playout) (map arrival_of datagrams ++ arrival_of datagram ∷ []) ps replies' new) (sym added)
          (subst (λ (rs : List (Option Reply)). TakesAll (opening playout) (map arrival_of datagrams ++ arrival_of datagram ∷ []) (map play_of plays ++ due) rs new) (sym told) joined));
      read = subst (λ (arrivals : List Arrival). All IsRead arrivals) (sym arrivals)
          (All-push IsRead (map arrival_of datagrams) (arrival_of datagram) so.read read);
      same = same ∙ so.same;
    }

-- There are no more arrivals than datagrams.
pub few_arrivals : (limit i : ℕ) (datagrams : List Datagram) → length datagrams < limit → length (map arrival_of (take i datagrams)) < limit
few_arrivals limit i datagrams few = simp (length-map, length-take) (omega arith)

-- A test that fails.
pub fails : (P : Type 0) (b : Bool) → b ≡ false → (P → IsTrue b) → ¬ P
fails P b isnt all p = (let yes : b ≡ true = all p in cc)

-- A word more of a copy.
pub one_more_shown :
    (shown : List ShownWord) (shown' : List ShownWord) (word : ShownWord) (all : List Shown) (i : ℕ)
    → i < length all → map shown_word shown ≡ take i all → shown_word word ≡ get_or all i nothing_shown
    → shown' ≡ shown ++ word ∷ [] → map shown_word shown' ≡ take (i + 1) all
one_more_shown shown shown' word all i below so is more =
    ap (λ (ws : List ShownWord). map shown_word ws) more
    ∙ map-append shown_word shown (word ∷ [])
    ∙ ap (λ (s : Shown). map shown_word shown ++ s ∷ []) is
    ∙ ap (λ (ss : List Shown). ss ++ get_or all i nothing_shown ∷ []) so
    ∙ sym (take_more all i nothing_shown below)

abbrev pub the_shown : Option Word → Bool → Shown
the_shown word repaired = record { word = word; repaired = repaired }

-- Two with the same word and the same mark are the same.
pub same_shown : (word : Option Word) (repaired : Bool) (shown : Shown) → word ≡ shown.word → repaired ≡ shown.repaired → the_shown word repaired ≡ shown
same_shown word repaired shown one other =
    ap (λ (w : Option Word). the_shown w repaired) one
    ∙ ap (λ (r : Bool). the_shown shown.word r) other

-- At first nothing was played before a datagram.
pub nothing_before : (desk : State) (seq ssrc : ℕ) → HavePlayedBefore desk seq ssrc [] desk
nothing_before desk seq ssrc = ⊎_elim
    (λ fresh. inl (fresh, refl))
    (λ stale. inr (stale, refl))
    (fresh_is_decided desk ssrc)

pub nothing_played : (arrival : Arrival) (desk : State) → HavePlayedThen desk arrival [] desk
nothing_played (carries time seq ssrc word) desk = nothing_before desk seq ssrc
nothing_played (protects time stream parity) desk = (refl, refl)
nothing_played (refused time stream) desk = (refl, refl)
