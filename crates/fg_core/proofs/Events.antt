-- What the passes' events make of a board.
use Rattle.std.proofs.Common.{◌≡◌, ℕ, Bool, true, false, List, Option, Some, None, IsSome, refl, sym, ap, subst, ◌∙◌, ⊎_elim}
use Rattle.std.specs.FinMap.{get}
use Rattle.std.specs.FinSet.{insert}
use Rattle.fg_words.specs.declared.Word.{Word}
use Rattle.fg_shape.specs.Playout.{Playout}
use Rattle.fg_peel.specs.Equation.{Equation, IsSettled}
use Rattle.fg_peel.specs.Laws.{PeelingsAppend}
use Rattle.fg_peel.proofs.Options.{has_value}
use Rattle.fg_peel.proofs.Maps.{was_or_inserted, was_in}
use Rattle.fg_playout.specs.State.{Live}
use Rattle.fg_playout.specs.Laws.{LiveStandUnderSerials}
use Rattle.fg_desk.specs.Contents.{CanFill, known_in, filled}
use Rattle.fg_core.specs.Board.{BoardState, JobState, IsLive, IsHeld, Takes, Offers, Publishes, Attests, Vouches, GivesBack, Looks, with_word, with_vouched, with_back}
use Rattle.fg_core.specs.Views.{Told, Grows, IsWorked, IsChecked}
use Rattle.fg_core.specs.Core.{Call, Event, take, publish, vouch, give_back, look, offer, attest, IsOwned, CanDo, IsEvent}
use Rattle.fg_core.specs.Laws.{EventsKeepOwned}
use Rattle.fg_core.specs.declared.key.Key.{Key}
use Rattle.fg_core.specs.declared.fate.Fate.{Fate}
use Rattle.fg_core.specs.declared.fate.Fate.TheVariants.{Done, Beaten, Gone}
use Rattle.fg_core.specs.declared.fate.Look.{Look}
use Rattle.fg_core.specs.declared.fate.Look.TheVariants as looked
use Rattle.fg_core.proofs.Filled.{stays_settled, filled_keeps, stays_solved}
use Rattle.fg_core.proofs.Told.{worked_can_fill, checked_is_settled}

-- What the admitter's calls make of a board stays so

module _ (playout : Playout) (calls : List Call) (board : BoardState) (owned : IsOwned playout calls board) where
  -- when a live equation is handed out,
  owned_out :
      (serial : ℕ) → IsSome (get board.desk.state.equations serial)
      → IsOwned playout calls (record board { handed_out = insert board.handed_out serial })
  owned_out serial some = record {
    desk = owned.desk;
    facts = owned.facts;
    solved = owned.solved;
    vouched = owned.vouched;
    handed_out = λ other is. ⊎_elim
        (λ same. subst (λ (s : ℕ). IsSome (get board.desk.state.equations s)) (sym same) some)
        (λ was. owned.handed_out other was)
        (was_or_inserted board.handed_out serial other is);
    bare = owned.bare;
    keys = owned.keys;
    epoch = owned.epoch;
  }

  -- when one is given back,
  owned_back : (serial : ℕ) → IsOwned playout calls (with_back board serial)
  owned_back serial = record {
    desk = owned.desk;
    facts = owned.facts;
    solved = owned.solved;
    vouched = owned.vouched;
    handed_out = λ other is. owned.handed_out other (was_in board.handed_out serial other is);
    bare = owned.bare;
    keys = owned.keys;
    epoch = owned.epoch;
  }

  -- when a word is solved that a live equation gives,
  owned_word :
      PeelingsAppend → (equation : Equation) (slot : ℕ) (word : Word) → CanFill board.desk equation slot word
      → IsOwned playout calls (with_word board slot word)
  owned_word appends equation slot word can = record {
    desk = owned.desk;
    facts = owned.facts;
    solved = stays_solved board.desk slot word equation can appends owned.solved;
    vouched = λ serial is.
        (let v = owned.vouched serial is in (
          v.0,
          v.1,
          stays_settled (known_in board.desk) (known_in (filled board.desk slot word))
              (filled_keeps board.desk slot word can.missing.1) v.0.equation v.2,
        ));
    handed_out = owned.handed_out;
    bare = owned.bare;
    keys = owned.keys;
    epoch = owned.epoch;
  }

  -- and when a live equation is vouched for that comes out.
  owned_vouched :
      (serial : ℕ) (live : Live) → IsLive board serial live → IsSettled (known_in board.desk) live.equation
      → IsOwned playout calls (with_vouched board serial)
  owned_vouched serial live is settled = record {
    desk = owned.desk;
    facts = owned.facts;
    solved = owned.solved;
    vouched = λ other noted. ⊎_elim
        (λ same. (live, ap (get board.desk.state.equations) same ∙ is, settled))
        (λ was. owned.vouched other was)
        (was_or_inserted board.vouched serial other noted);
    handed_out = owned.handed_out;
    bare = owned.bare;
    keys = owned.keys;
    epoch = owned.epoch;
  }

module _
    (appends : PeelingsAppend) (stand : LiveStandUnderSerials) (playout : Playout) (calls : List Call)
    (old : BoardState) (told : List Told) (owned : IsOwned playout calls old) (grows : Grows told old) where
  -- An event that changes nothing keeps it.
  owned_same : (new : BoardState) → new ≡ old → IsOwned playout calls new
  owned_same new same = subst (λ (b : BoardState). IsOwned playout calls b) (sym same) owned

  -- And so does each event of the passes, whose names these have.
  after_take : (job : Option JobState) (new : BoardState) → Takes old job new → IsOwned playout calls new
  after_take None new takes = owned_same new takes.1
  after_take (Some job) new takes =
      let current = takes.0.2.current in
      subst (λ (b : BoardState). IsOwned playout calls b) (sym takes.2)
      (owned_out playout calls old owned job.key.serial
      (has_value (get old.desk.state.equations job.key.serial) takes.0.0 current.live_is))

  after_offer :
      (key : Key) (slot : ℕ) (word : Word) (fate : Fate) (new : BoardState)
      → (equation : Equation) → IsWorked told key equation slot word → Offers old key slot word fate new
      → IsOwned playout calls new
  after_offer key slot word (Gone mark epoch) new equation worked gone = owned_same new gone.same
  after_offer key slot word (Beaten other) new equation worked beaten = owned_same new beaten.3
  after_offer key slot word Done new equation worked done =
      subst (λ (b : BoardState). IsOwned playout calls b) (sym done.2)
      (owned_word playout calls old owned appends equation slot word
      (worked_can_fill old owned.facts told grows key done.0.0 done.0.1 stand equation slot word worked done.1))

  -- It stays so where an equation is given back besides.
  given_back : (offered : BoardState) (serial : ℕ) (new : BoardState) → IsOwned playout calls offered
      → new ≡ with_back offered serial → IsOwned playout calls new
  given_back offered serial new o same =
      subst (λ (b : BoardState). IsOwned playout calls b) (sym same) (owned_back playout calls offered o serial)

  after_publish :
      (key : Key) (slot : ℕ) (word : Word) (fate : Fate) (new : BoardState)
      → (equation : Equation) → IsWorked told key equation slot word → Publishes old key slot word fate new
      → IsOwned playout calls new
  after_publish key slot word (Gone mark epoch) new equation worked gone = owned_same new gone.same
  after_publish key slot word (Beaten other) new equation worked p =
      given_back p.0 key.serial new (after_offer key slot word (Beaten other) p.0 equation worked p.1) p.2
  after_publish key slot word Done new equation worked p =
      given_back p.0 key.serial new (after_offer key slot word Done p.0 equation worked p.1) p.2

  -- A check that follows from what was told may be taken.
  with_check :
      (key : Key) (equation : Equation) → IsChecked told key equation true → IsHeld old key
      → IsOwned playout calls (with_vouched old key.serial)
  with_check key equation checked held =
      owned_vouched playout calls old owned key.serial held.0 held.1.live_is
      (checked_is_settled old owned.facts told grows key held.0 held.1 equation true checked refl)

  after_attest :
      (key : Key) (comes : Bool) (fate : Fate) (new : BoardState)
      → (equation : Equation) → IsChecked told key equation comes → Attests old key comes fate new
      → IsOwned playout calls new
  after_attest key comes (Gone mark epoch) new equation checked gone = owned_same new gone.same
  after_attest key comes (Beaten other) new equation checked never = absurd never
  after_attest key true Done new equation checked done =
      subst (λ (b : BoardState). IsOwned playout calls b) (sym done.1) (with_check key equation checked done.0)
  after_attest key false Done new equation checked done = owned_same new done.1

  after_vouch :
      (key : Key) (comes : Bool) (fate : Fate) (new : BoardState)
      → (equation : Equation) → IsChecked told key equation comes → Vouches old key comes fate new
      → IsOwned playout calls new
  after_vouch key comes (Gone mark epoch) new equation checked gone = owned_same new gone.same
  after_vouch key comes (Beaten other) new equation checked never = absurd never
  after_vouch key true Done new equation checked done =
      given_back (with_vouched old key.serial) key.serial new (with_check key equation checked done.0) done.1
  after_vouch key false Done new equation checked done = owned_same new done.1

  after_give_back : (key : Key) (fate : Fate) (new : BoardState) → GivesBack old key fate new → IsOwned playout calls new
  after_give_back key (Gone mark epoch) new gone = owned_same new gone.same
  after_give_back key (Beaten other) new never = absurd never
  after_give_back key Done new done = given_back old key.serial new owned done.1

  after_look :
      (key : Key) (slot : Option ℕ) (answer : Look) (new : BoardState) → Looks old key slot answer new
      → IsOwned playout calls new
  after_look key slot (looked.Gone mark epoch) new gone = owned_same new gone.same
  after_look key None looked.Unknown new told = owned_same new told.1
  after_look key (Some slot) looked.Unknown new unknown = owned_same new unknown.2
  after_look key None (looked.Known word) new never = absurd never
  after_look key (Some slot) (looked.Known word) new known = owned_same new known.2

  -- So each event keeps it.
  after_event : (event : Event) (new : BoardState) → CanDo told event → IsEvent old event new → IsOwned playout calls new
  after_event (take job) new can does = after_take job new does
  after_event (publish key slot word fate) new can does = after_publish key slot word fate new can.0 can.1 does
  after_event (vouch key comes fate) new can does = after_vouch key comes fate new can.0 can.1 does
  after_event (give_back key fate) new can does = after_give_back key fate new does
  after_event (look key slot answer) new can does = after_look key slot answer new does
  after_event (offer key slot word fate) new can does = after_offer key slot word fate new can.0 can.1 does
  after_event (attest key comes fate) new can does = after_attest key comes fate new can.0 can.1 does

pub events_keep_owned : PeelingsAppend → LiveStandUnderSerials → EventsKeepOwned
events_keep_owned appends stand playout calls event old new told owned grows can does =
    after_event appends stand playout calls old told owned grows event new can does
