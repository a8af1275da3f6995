-- What a look at one more line adds to what was found.
use Rattle.std.proofs.Common.{◌≡◌, ◌≢◌, ◌⊎◌, ◌<◌, ◌&&◌, ℕ, Bool, true, false, List, [], Option, Some, None, IsTrue, inl, inr, refl, sym, ap, subst, ◌∙◌, ⊎_elim}
use Rattle.std.proofs.lemmas.Bool.{cases_eq}
use Rattle.std.proofs.lemmas.Option.{none-some, same_Some}
use Rattle.std.specs.FinMap.{FinMap, get}
use Rattle.std.specs.FinSet as fset
use Rattle.std.specs.List.{Contains}
use Rattle.std.specs.Ordering.{nat_cmp}
use Rattle.fg_words.specs.declared.Word.{Word}
use Rattle.fg_words.specs.Word.{IsMedia}
use Rattle.fg_peel.specs.declared.looks.Look.{Look}
use Rattle.fg_peel.specs.declared.looks.Look.TheVariants.{Several, Found, Complete}
use Rattle.fg_peel.specs.Equation.{Equation, Keeps, AreMedia, IsComplete, IsSettled}
use Rattle.fg_peel.specs.Look.{LacksTwo, IsLook}
use Rattle.fg_peel.specs.Laws.{PeelingsAppend, PeelingsKeepWords}
use Rattle.fg_peel.specs.Peeling.{Step, ArePeeled, after_step, given_word}
use Rattle.fg_peel.proofs.Options.{none_or_some, has_value}
use Rattle.fg_peel.proofs.Peelings.{after_step-at, after_step-other}
use Rattle.fg_playout.specs.State.{Live}
use Rattle.fg_buffer.specs.PlayoutBuffer.{BufferState, buffer_words}
use Rattle.fg_buffer.specs.LiveEquations.{LiveState, SettlesAt}
use Rattle.fg_buffer.specs.Watches.{WatchState, TakesOut, first_of, second_of, nowhere}
use Rattle.fg_desk.specs.Storage.{equations_in, EachSettled}
use Rattle.fg_desk.specs.Watched.{IsWatched, EachWatched, EachWatchedBut, HaveRooms, Breaks, Finds, Follows, IsVisit, IsPassed}
use Rattle.fg_desk.proofs.DeskFills.{XorIsGroup}
use Rattle.fg_desk.proofs.DeskOneWord.{IsWith, peeled_with_step, settled_by_word}
use Rattle.fg_desk.proofs.SettledEquations.{live_in_at}
use Rattle.fg_desk.proofs.SettledWords.{complete_keeps, settled_keeps, settled_back}
use Rattle.fg_desk.proofs.WatchedLines.{taken_watched, apart_watched, put_watched, open_before, open_elsewhere, one_at}

-- What is broken stays so where more words come.
breaks_keeps :
    (known words later : ℕ → Option Word) (equations : List Equation) → Keeps words later → Breaks known words equations
    → Breaks known later equations
breaks_keeps known words later equations keeps breaks = ⊎_elim
    (λ found. inl (found.0, found.1, found.2, keeps found.0 found.1 found.3, found.4))
    (λ broken.
    inr (
      broken.0,
      broken.1,
      complete_keeps words later broken.0 keeps broken.2,
      λ out. broken.3 (settled_back words later broken.0 keeps broken.2 (complete_keeps words later broken.0 keeps broken.2, out)).1,
    ))
    breaks

pub both_false : (one other : Bool) → other ≡ false → (one && other) ≡ false
both_false true other is = is
both_false false other is = refl

both_true : (one other : Bool) → IsTrue (one && other) → IsTrue one × IsTrue other
both_true true other is = (refl, is)
both_true false other is = absurd (cc)

pub finds_first :
    (buffer : BufferState) (lines : LiveState) (watches : WatchState) → EachSettled lines (IsSettled (buffer_words buffer))
    → EachWatched watches (buffer_words buffer) lines → Finds buffer lines buffer lines watches true
finds_first buffer lines watches settled watched = record {
  rest = refl;
  live = refl;
  peeled = ([], tt, refl);
  settled = settled;
  watched = λ serial live is open_still. (let w = watched serial live is open_still in (w.0, inl w.1));
  media = λ holds media. media;
  broken = λ fails. (let e : true ≡ false = fails in absurd (cc));
}

module _
    (old : BufferState) (lines : LiveState) (rooms : HaveRooms lines) (buffer : BufferState) (now : LiveState)
    (watches taken : WatchState) (sound : Bool) (finds : Finds old lines buffer now watches sound) (place : ℕ)
    (out : TakesOut place watches taken) where
  -- The lines of other places are watched still.
  others_watched :
      (serial : ℕ) (live : Live) → get now.live serial ≡ Some live → fset.contains now.settled serial ≡ false → live.place ≢ place
      → (live.place < 512) × (IsWatched taken (buffer_words buffer) live ⊎ ((sound ≡ false) × IsComplete (buffer_words buffer) live.equation))
  others_watched serial live is open_still differs =
      let w = finds.watched serial live is open_still in (
        w.0,
        ⊎_elim (λ a. inl (taken_watched place watches taken out (buffer_words buffer) live differs a)) (λ b. inr b) w.1,
      )

  module _
      (new : BufferState) (left : LiveState) (then : WatchState) (answer : Bool) where
    -- No open line has the place.
    pub finds_passed : IsPassed place buffer now taken new left then answer → Finds old lines new left then (answer && sound)
    finds_passed passed =
        let base : Finds old lines buffer now taken sound = record {
          rest = finds.rest;
          live = finds.live;
          peeled = finds.peeled;
          settled = finds.settled;
          watched = λ serial live is open_still.
              others_watched serial live is open_still
              (λ same. let e : false ≡ true = sym open_still ∙ passed.none serial live is same in absurd (cc));
          media = finds.media;
          broken = finds.broken;
        } in
        subst (λ (a : Bool). Finds old lines new left then (a && sound)) (sym passed.answer_is)
        (subst (λ (w : WatchState). Finds old lines new left w sound) (sym passed.watches_are)
        (subst (λ (l : LiveState). Finds old lines new l taken sound) (sym passed.lines_are)
        (subst (λ (b : BufferState). Finds old lines b now taken sound) (sym passed.buffer_is) base)))

    module _ (visit : IsVisit place buffer now taken new left then answer) where
      rest : new ≡ record old { cached = new.cached }
      rest = visit.rest ∙ ap (λ (b : BufferState). record b { cached = new.cached }) finds.rest

      -- It is the one line of the place.
      same_line : (serial : ℕ) (live : Live) → get now.live serial ≡ Some live → live.place ≡ place → live ≡ visit.live
      same_line serial live is same =
          one_at now visit.facts serial visit.serial live visit.live is visit.is (same ∙ sym visit.placed)

      was_live : get lines.live visit.serial ≡ Some visit.live
      was_live = sym (ap (λ (m : FinMap nat_cmp Live). get m visit.serial) finds.live) ∙ visit.is

      listed : Contains (equations_in lines) visit.live.equation
      listed = live_in_at lines visit.serial visit.live was_live

      -- Where the words are the same.
      unchanged :
          (sound' : Bool) → buffer_words new ≡ buffer_words buffer → left.live ≡ now.live
          → EachSettled left (IsSettled (buffer_words buffer)) → EachWatchedBut sound' then (buffer_words buffer) left
          → (IsTrue sound' → IsTrue sound)
          → (sound' ≡ false → Breaks (buffer_words old) (buffer_words buffer) (equations_in lines))
          → Finds old lines new left then sound'
      unchanged sound' same live settled watched stays broken =
          let P : (ℕ → Option Word) → Type 0 = λ w.
          ArePeeled (equations_in lines) (buffer_words old) w × EachSettled left (IsSettled w) × EachWatchedBut sound' then w left
          × (IsTrue sound' → AreMedia (buffer_words old) → AreMedia w)
          × (sound' ≡ false → Breaks (buffer_words old) w (equations_in lines)) in
          let all = subst P (sym same) (finds.peeled, settled, watched, λ holds. finds.media (stays holds), broken) in
          record {
            rest = rest;
            live = live ∙ finds.live;
            peeled = all.0;
            settled = all.1;
            watched = all.2;
            media = all.3;
            broken = all.4;
          }

      -- Those that are settled then, where the line comes out.
      settled_then :
          (later : ℕ → Option Word) → Keeps (buffer_words buffer) later → IsSettled later visit.live.equation
          → SettlesAt place now left → EachSettled left (IsSettled later)
      settled_then later keeps comes_out settles serial live is settled =
          let was : get now.live serial ≡ Some live = sym (ap (λ (m : FinMap nat_cmp Live). get m serial) settles.live) ∙ is in
          ⊎_elim
          (λ before. settled_keeps (buffer_words buffer) later live.equation keeps (finds.settled serial live was before))
          (λ here.
          let same : here.0 ≡ live = same_Some here.0 live (sym here.1 ∙ was) in
          let it = same_line serial live was (sym (ap (λ (l : Live). l.place) same) ∙ here.2) in
          subst (λ (l : Live). IsSettled later l.equation) (sym it) comes_out)
          ((settles.settled serial).0 settled)

      -- And those that are open.
      open_then :
          SettlesAt place now left → (serial : ℕ) (live : Live) → get left.live serial ≡ Some live
          → fset.contains left.settled serial ≡ false
          → (live.place ≢ place) × (live.place < 512)
          × (IsWatched taken (buffer_words buffer) live ⊎ ((sound ≡ false) × IsComplete (buffer_words buffer) live.equation))
      open_then settles serial live is open_still =
          let was : get now.live serial ≡ Some live = sym (ap (λ (m : FinMap nat_cmp Live). get m serial) settles.live) ∙ is in
          let differs = open_elsewhere place now left settles serial live was open_still in
          let w = others_watched serial live was (open_before place now left settles serial open_still) differs in
          (differs, w.0, w.1)

      finds_several :
          (first second : ℕ) → IsLook (buffer_words buffer) (buffer_words new) visit.live.equation (Several first second)
          → Follows (Several first second) place now taken left then answer → Finds old lines new left then (answer && sound)
      finds_several first second look follows =
          let at = follows.1 in
          subst (λ (a : Bool). Finds old lines new left then (a && sound)) (sym follows.2)
          (unchanged sound look.1 (ap (λ (l : LiveState). l.live) follows.0)
          (subst (λ (l : LiveState). EachSettled l (IsSettled (buffer_words buffer))) (sym follows.0) finds.settled)
          (subst (λ (l : LiveState). EachWatchedBut sound then (buffer_words buffer) l) (sym follows.0)
          (λ serial live is open_still. ⊎_elim
          (λ (same : live.place ≡ place).
          let it = same_line serial live is same in
          let one : first_of then live.place ≡ first = ap (first_of then) same ∙ at.first_is in
          let two : second_of then live.place ≡ second = ap (second_of then) same ∙ at.second_is in
          let lacks : LacksTwo (buffer_words buffer) live.equation first second =
          subst (λ (l : Live). LacksTwo (buffer_words buffer) l.equation first second) (sym it) look.0 in
          let lacks' : LacksTwo (buffer_words buffer) live.equation (first_of then live.place) (second_of then live.place) =
          subst (λ (p : ℕ). LacksTwo (buffer_words buffer) live.equation p (second_of then live.place)) (sym one)
          (subst (λ (q : ℕ). LacksTwo (buffer_words buffer) live.equation first q) (sym two) lacks) in
          ((finds.watched serial live is open_still).0, inl (inr lacks')))
          (λ differs.
          let w = others_watched serial live is open_still differs in (
            w.0,
            ⊎_elim (λ a. inl (apart_watched place first second taken then at (buffer_words buffer) live differs a)) (λ b. inr b) w.1,
          ))
          (cases_eq live.place place)))
          (λ holds. holds) finds.broken)

      finds_sound :
          IsLook (buffer_words buffer) (buffer_words new) visit.live.equation (Complete true)
          → Follows (Complete true) place now taken left then answer → Finds old lines new left then (answer && sound)
      finds_sound look follows =
          let settles = follows.0 in
          subst (λ (a : Bool). Finds old lines new left then (a && sound)) (sym follows.2)
          (unchanged sound look.2 settles.live
          (settled_then (buffer_words buffer) (λ q word is. is) (look.0, look.1.0 refl) settles)
          (λ serial live is open_still.
          let w = open_then settles serial live is open_still in (
            w.1,
            ⊎_elim (λ a. inl (apart_watched place nowhere nowhere taken then follows.1 (buffer_words buffer) live w.0 a)) (λ b. inr b) w.2,
          ))
          (λ holds. holds) finds.broken)

      finds_broken :
          IsLook (buffer_words buffer) (buffer_words new) visit.live.equation (Complete false)
          → Follows (Complete false) place now taken left then answer → Finds old lines new left then (answer && sound)
      finds_broken look follows =
          subst (λ (a : Bool). Finds old lines new left then (a && sound)) (sym follows.2)
          (unchanged false look.2 (ap (λ (l : LiveState). l.live) follows.0)
          (subst (λ (l : LiveState). EachSettled l (IsSettled (buffer_words buffer))) (sym follows.0) finds.settled)
          (subst (λ (l : LiveState). EachWatchedBut false then (buffer_words buffer) l) (sym follows.0)
          (λ serial live is open_still. ⊎_elim
          (λ (same : live.place ≡ place).
          let it = same_line serial live is same in (
            (finds.watched serial live is open_still).0,
            inr (refl, subst (λ (l : Live). IsComplete (buffer_words buffer) l.equation) (sym it) look.0),
          ))
          (λ differs.
          let w = others_watched serial live is open_still differs in (
            w.0,
            ⊎_elim
                (λ a. inl (apart_watched place nowhere nowhere taken then follows.1 (buffer_words buffer) live differs a))
                (λ b. inr (refl, b.1)) w.1,
          ))
          (cases_eq live.place place)))
          (λ holds. let e : false ≡ true = holds in absurd (cc))
          (λ fails. inr (visit.live.equation, listed, look.0, λ comes. let e : false ≡ true = look.1.1 comes in absurd (cc))))

      module _
          (position : ℕ) (media : Bool)
          (look : IsLook (buffer_words buffer) (buffer_words new) visit.live.equation (Found position media))
          (append : PeelingsAppend) (keep : PeelingsKeepWords) (group : XorIsGroup) where
        abbrev step : Step
        step = record { equation = visit.live.equation; position = position }

        abbrev given : Word
        given = given_word (buffer_words buffer) step

        with_given : IsWith position given (buffer_words buffer) (buffer_words new)
        with_given = record {
          here = λ q here.
              (ap (λ (f : ℕ → Option Word). f q) look.1 ∙ ap (after_step (buffer_words buffer) step) here
              ∙ after_step-at (buffer_words buffer) step);
          beside = λ q beside.
              (ap (λ (f : ℕ → Option Word). f q) look.1 ∙ after_step-other (buffer_words buffer) step q beside);
        }

        keeps : Keeps (buffer_words buffer) (buffer_words new)
        keeps q word is = ⊎_elim
            (λ (here : q ≡ position). absurd (none-some word (sym (ap (buffer_words buffer) here ∙ look.0.1) ∙ is)))
            (λ beside. with_given.beside q beside ∙ is)
            (cases_eq q position)

        peeled : ArePeeled (equations_in lines) (buffer_words old) (buffer_words new)
        peeled =
            peeled_with_step append (equations_in lines) (buffer_words old) (buffer_words buffer) (buffer_words new) step
            (record { listed = listed; slot = look.0.0; unknown = look.0.1; others_known = look.0.2 }) with_given finds.peeled

        comes_out : IsSettled (buffer_words new) visit.live.equation
        comes_out =
            settled_by_word visit.live.equation position given (buffer_words buffer) (buffer_words new)
            (visit.facts.shape visit.serial visit.live visit.is).some_offset look.0 refl look.3 (rooms visit.serial visit.live was_live)
            with_given group.commutes group.associates group.has_zero group.undoes

        unknown_before : buffer_words old position ≡ None
        unknown_before = ⊎_elim
            (λ none. none)
            (λ some.
            let p = finds.peeled in
            let kept : buffer_words buffer position ≡ Some some.0 =
            ap (λ (f : ℕ → Option Word). f position) p.2
            ∙ keep (buffer_words old) (equations_in lines) p.0 p.1 position some.0 some.1 in
            absurd (none-some some.0 (sym look.0.1 ∙ kept)))
            (none_or_some (buffer_words old position))

        finds_word : Follows (Found position media) place now taken left then answer → Finds old lines new left then (answer && sound)
        finds_word follows =
            let settles = follows.0 in
            let between = follows.1.0 in
            subst (λ (a : Bool). Finds old lines new left then (a && sound)) (sym follows.2)
            (record {
              rest = rest;
              live = settles.live ∙ finds.live;
              peeled = peeled;
              settled = settled_then (buffer_words new) keeps comes_out settles;
              watched = λ serial live is open_still.
                  (let w = open_then settles serial live is open_still in (
                    w.1,
                    ⊎_elim
                        (λ a.
                        inl (put_watched between then (buffer_words buffer) (buffer_words new) position
                        (has_value (buffer_words new position) given (with_given.here position refl)) with_given.beside follows.1.2 live w.1
                        (apart_watched place nowhere nowhere taken between follows.1.1 (buffer_words buffer) live w.0 a)))
                        (λ b. inr (
                          both_false media sound b.0,
                          complete_keeps (buffer_words buffer) (buffer_words new) live.equation keeps b.1,
                        ))
                        w.2,
                  ));
              media = λ holds all q word is.
                  (let both = both_true media sound holds in
                  ⊎_elim
                  (λ (here : q ≡ position).
                  let same : given ≡ word = same_Some given word (sym (with_given.here q here) ∙ is) in
                  subst IsMedia same (look.2.0 both.0))
                  (λ beside. finds.media both.1 all q word (sym (with_given.beside q beside) ∙ is))
                  (cases_eq q position));
              broken = λ fails. breaks media refl fails;
            })
          where
            breaks :
                (m : Bool) → media ≡ m → (media && sound) ≡ false
                → Breaks (buffer_words old) (buffer_words new) (equations_in lines)
            breaks true is fails =
                let lacks : sound ≡ false = subst (λ (m : Bool). (m && sound) ≡ false) is fails in
                breaks_keeps (buffer_words old) (buffer_words buffer) (buffer_words new) (equations_in lines) keeps (finds.broken lacks)
            breaks false is fails = inl (
              position,
              given,
              unknown_before,
              with_given.here position refl,
              λ is_media. let e : false ≡ true = sym is ∙ look.2.1 is_media in absurd (cc),
            )

      pub finds_visited :
          PeelingsAppend → PeelingsKeepWords → XorIsGroup → Finds old lines new left then (answer && sound)
      finds_visited append keep group = go visit.look visit.look_is visit.follows
        where
          go :
              (look : Look) → IsLook (buffer_words buffer) (buffer_words new) visit.live.equation look
              → Follows look place now taken left then answer → Finds old lines new left then (answer && sound)
          go (Several first second) is follows = finds_several first second is follows
          go (Found position media) is follows = finds_word position media is append keep group follows
          go (Complete true) is follows = finds_sound is follows
          go (Complete false) is follows = finds_broken is follows
