-- Runs of the core: the admitter's calls and the passes' events, in any order.
use Rattle.std.proofs.Common.{◌≡◌, ◌==◌, ◌++◌, ℕ, Bool, true, false, cond, List, [], ◌∷◌, Some, None, refl, sym, ap, subst, ◌∙◌, append_assoc, append-nil}
use Rattle.std.proofs.lemmas.List.Elements.{All-nil, All-push, All-append}
use Rattle.std.specs.List.{All}
use Rattle.fg_shape.specs.Playout.{Playout}
use Rattle.fg_playout.specs.State.{State, opening}
use Rattle.fg_core.specs.Board.{BoardState, opened_board}
use Rattle.fg_core.specs.Views.{Told, IsBorneOut, Grows, seen_of}
use Rattle.fg_core.specs.Core.{Call, media, parity, play, flush, held, skip, IsCallOn, AreCallsOn, IsOwned, CanCall, IsCall, Event, CanDo, IsEvent, Tells, World, opened_world, with_told, Turn, admitter, pass, IsTurn, IsRun}
use Rattle.fg_core.specs.Laws.{OpeningIsOwned, CallsExtend, CallsKeepTold, EventsKeepOwned, EventsKeepTold, EventsLeaveTheState, AnswersHold, CoreHolds, LaterTurnsKeepCalls}
use Rattle.fg_core.proofs.Growing.{seen_holds}

-- What holds of a world all along a run.
record IsSound (playout : Playout) (world : World) : Type 0 where
  owned : IsOwned playout world.calls world.board
  own : Grows world.own world.board
  views : (number : ℕ) → Grows (world.views number) world.board

-- What a pass was told, and others weren't.
told_one :
    (P : Told → Type 0) (views : ℕ → List Told) (number : ℕ) (told : List Told)
    → ((other : ℕ) → All P (views other)) → All P told → (other : ℕ) → All P (with_told views number told other)
told_one P views number told before holds other = go (other == number)
  where
    go : (b : Bool) → All P (cond b (views other ++ told) (views other))
    go true = All-append P (views other) told (before other) holds
    go false = before other

module _
    (calls_extend : CallsExtend) (calls_keep_told : CallsKeepTold) (events_keep_owned : EventsKeepOwned)
    (events_keep_told : EventsKeepTold) (answers_hold : AnswersHold) (playout : Playout) where
  -- It holds after a call of the admitter,
  after_call :
      (old : World) (call : Call) (board : BoardState) → IsSound playout old → CanCall old.board call
      → IsCall old.board call board
      → IsSound playout (record old {
        board = board;
        calls = old.calls ++ call ∷ [];
        own = old.own ++ seen_of board ∷ [];
      })
  after_call old call board sound can does =
      let grows : (told : List Told) → Grows told old.board → Grows told board =
      λ told. calls_keep_told playout old.calls call old.board board told sound.owned can does in
      record {
        owned = calls_extend playout old.calls call old.board board sound.owned can does;
        own = All-push (IsBorneOut board) old.own (seen_of board) (grows old.own sound.own) (seen_holds board);
        views = λ number. grows (old.views number) (sound.views number);
      }

  -- after an event of a pass,
  after_event :
      (old : World) (number : ℕ) (event : Event) (board : BoardState) (told : List Told) → IsSound playout old
      → CanDo (old.views number) event → IsEvent old.board event board → Tells board event told
      → IsSound playout (record old { board = board; views = with_told old.views number (seen_of board ∷ told) })
  after_event old number event board told sound can does tells =
      let mine = sound.views number in
      let grows : (others : List Told) → Grows others old.board → Grows others board =
      λ others. events_keep_told playout old.calls event old.board board (old.views number) others sound.owned mine can does in
      record {
        owned = events_keep_owned playout old.calls event old.board board (old.views number) sound.owned mine can does;
        own = grows old.own sound.own;
        views = told_one (IsBorneOut board) old.views number (seen_of board ∷ told)
            (λ other. grows (old.views other) (sound.views other))
            (answers_hold playout old.calls event old.board board told sound.owned does tells);
      }

  -- so after a turn of anybody,
  after_turn : (old : World) (turn : Turn) (new : World) → IsSound playout old → IsTurn old turn new → IsSound playout new
  after_turn old (admitter call) new sound taken =
      subst (λ (w : World). IsSound playout w) (sym taken.2) (after_call old call new.board sound taken.0 taken.1)
  after_turn old (pass number event) new sound taken =
      subst (λ (w : World). IsSound playout w) (sym taken.4)
      (after_event old number event new.board taken.0 sound taken.1 taken.2 taken.3)

  -- and after a run.
  after_run : (turns : List Turn) (old new : World) → IsSound playout old → IsRun old turns new → IsSound playout new
  after_run [] old new sound run = subst (λ (w : World). IsSound playout w) (sym run) sound
  after_run (turn ∷ turns) old new sound run =
      after_run turns run.0 new (after_turn old turn run.0 sound run.1) run.2

pub core_holds :
    OpeningIsOwned → CallsExtend → CallsKeepTold → EventsKeepOwned → EventsKeepTold → AnswersHold → CoreHolds
core_holds opened calls_extend calls_keep events_keep_owned events_keep_told answers playout turns world some most deep run =
    let nothing : Grows [] (opened_board playout) = All-nil (IsBorneOut (opened_board playout)) in
    let sound = after_run calls_extend calls_keep events_keep_owned events_keep_told answers playout turns
    (opened_world playout) world
    (record { owned = opened playout some most deep; own = nothing; views = λ number. nothing }) run in
    (sound.owned, sound.own, sound.views)

-- A call on a board is one on its desk.
call_on : (old : BoardState) (call : Call) (new : BoardState) → IsCall old call new → IsCallOn old.desk.state call new.desk.state
call_on old (media seq ssrc word reply) new does = does.state
call_on old (parity datagram reply key) new does = (does.state, does.key_is)
call_on old (play played) new does = (does.0, does.1.state, does.2)
call_on old (flush None) new does = does.0
call_on old (flush (Some played)) new does = (does.0, does.1.0, does.2)
call_on old (held time None) new does = does.0
call_on old (held time (Some played)) new does = (does.0, does.1.0, does.2)
call_on old (skip time count) new does = does.state

-- The admitter's calls among a run's turns.
record MakesCalls (old new : World) : Type 0 where
  calls : List Call
  calls_are : new.calls ≡ old.calls ++ calls
  made : AreCallsOn old.board.desk.state calls new.board.desk.state

-- One call more, before others.
one_call :
    (old : World) (call : Call) (next new : World) → IsTurn old (admitter call) next → MakesCalls next new → MakesCalls old new
one_call old call next new taken rest = record {
  calls = call ∷ rest.calls;
  calls_are =
      rest.calls_are ∙ ap (λ (w : World). w.calls ++ rest.calls) taken.2 ∙ append_assoc old.calls (call ∷ []) rest.calls;
  made = (next.board.desk.state, (taken.0, call_on old.board call next.board taken.1), rest.made);
}

module _ (leave : EventsLeaveTheState) where
  -- An event of a pass is none.
  no_call :
      (old : World) (number : ℕ) (event : Event) (next new : World) → IsTurn old (pass number event) next → MakesCalls next new
      → MakesCalls old new
  no_call old number event next new taken rest = record {
    calls = rest.calls;
    calls_are = rest.calls_are ∙ ap (λ (w : World). w.calls ++ rest.calls) taken.4;
    made = subst (λ (s : State). AreCallsOn s rest.calls new.board.desk.state)
        (leave event old.board next.board taken.2).0 rest.made;
  }

  -- So the calls of a run make the desk what it is.
  calls_of_run : (turns : List Turn) (old new : World) → IsRun old turns new → MakesCalls old new
  calls_of_run [] old new run = record {
    calls = [];
    calls_are = ap (λ (w : World). w.calls) run ∙ sym (append-nil old.calls);
    made = ap (λ (w : World). w.board.desk.state) run;
  }
  calls_of_run (admitter call ∷ turns) old new run =
      one_call old call run.0 new run.1 (calls_of_run turns run.0 new run.2)
  calls_of_run (pass number event ∷ turns) old new run =
      no_call old number event run.0 new run.1 (calls_of_run turns run.0 new run.2)

-- A run can be told in two parts.
run_between :
    (earlier later : List Turn) (old new : World) → IsRun old (earlier ++ later) new
    → (between : World) × IsRun old earlier between × IsRun between later new
run_between [] later old new run = (old, refl, run)
run_between (turn ∷ earlier) later old new run =
    let rest = run_between earlier later run.0 new run.2 in
    (rest.0, (run.0, run.1, rest.1), rest.2)

pub later_turns_keep_calls : EventsLeaveTheState → LaterTurnsKeepCalls
later_turns_keep_calls leave playout earlier later new run =
    let parts = run_between earlier later (opened_world playout) new run in
    let before = calls_of_run leave earlier (opened_world playout) parts.0 parts.1 in
    let after = calls_of_run leave later parts.0 new parts.2 in (
      parts.0,
      after.calls,
      parts.1,
      parts.2,
      after.calls_are,
      subst (λ (calls : List Call). AreCallsOn (opening playout) calls parts.0.board.desk.state) (sym before.calls_are)
          before.made,
      after.made,
    )
