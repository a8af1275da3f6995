-- What is so of a flow that has taken records.
use Rattle.std.proofs.Common.{◌≡◌, ◌<◌, ◌≤◌, ◌^◌, ℕ, not, List, [], ◌∷◌, length, Option, Some, None, refl, sym, subst, arith, length-append}
use Rattle.std.specs.List.{All}
use Rattle.std.proofs.lemmas.List.Sums.{count_by-le-length}
use Rattle.std.proofs.lemmas.List.Elements.{All-head, All-tail}
use Rattle.fg_playout.specs.declared.reply.Reply.{Reply}
use Rattle.fg_playout.specs.declared.reply.Reply.TheVariants.{Admitted, Duplicate, Conflict, Late, NotStarted, BeforeStart, Ahead, Crowded, Foreign}
use Rattle.fg_shape.specs.declared.kind.Kind.{Kind}
use Rattle.fg_shape.specs.declared.kind.Kind.TheVariants.{Media, Column, Row}
use Rattle.fg_shape.specs.Playout.{Playout}
use Rattle.fg_playout.specs.State.{State, opening}
use Rattle.fg_playout.specs.Play.{Play, Shown}
use Rattle.fg_desk.specs.Arrivals.{StaysWithin, FlushesWithin}
use Rattle.fg_playout.specs.Run.{Arrival, TakesAll, count_of}
use Rattle.fg_playout.specs.Laws.{RunsStayWithin, FlushesStayWithin, PlaysReachTheMark, CountsStayWithin, played_count}
use Rattle.fg_report.specs.declared.flow_sum.FlowSum.{FlowSum}
use Rattle.fg_results.specs.Flow.{all_shown, shows_word, is_inconsistent, marks_of}
use Rattle.fg_engine.specs.Steps.{IsUnderway, CountsWithin, MarksHaveRoom, RepliesHaveRoom, sum_so_far}
use Rattle.fg_results.proofs.ArrivalLemmas.{few_arrive, arrivals_are_read}
use Rattle.fg_engine.proofs.Counting.{gaps_end_within}

few_arrivals : (playout : Playout) (flow : ℕ) (state : State) (sum : FlowSum) (is : IsUnderway playout flow state sum) → length is.taken.arrivals < 2 ^ 43
few_arrivals playout flow state sum is =
    let fewer = few_arrive flow is.records is.taken.arrivals is.taken.arrive in
    let few = is.few in
    omega (arith, fewer, few)

pub stays_within : RunsStayWithin → (playout : Playout) (flow : ℕ) (state : State) (sum : FlowSum) → IsUnderway playout flow state sum → StaysWithin state
stays_within stay playout flow state sum is next due new played =
    let few = few_arrivals playout flow state sum is in
    stay playout next is.taken.arrivals is.taken.plays due is.taken.replies state new
    is.fits.window.0 is.fits.window.1 is.fits.depth.0 is.fits.depth.1
    (arrivals_are_read flow is.records is.taken.arrivals is.taken.arrive) (omega (arith, few)) is.taken.takes played

pub flushes_within : FlushesStayWithin → (playout : Playout) (flow : ℕ) (state : State) (sum : FlowSum) → IsUnderway playout flow state sum → FlushesWithin state
flushes_within stay playout flow state sum is flushed new steps =
    let few = few_arrivals playout flow state sum is in
    stay playout is.taken.arrivals is.taken.plays flushed is.taken.replies state new
    is.fits.window.0 is.fits.window.1 is.fits.depth.0 is.fits.depth.1
    (arrivals_are_read flow is.records is.taken.arrivals is.taken.arrive) (omega (arith, few)) is.taken.takes steps

-- The mark is the number of positions that were shown or missing.

played_are_shown : (plays : List Play) → played_count plays ≡ length (all_shown plays)
played_are_shown [] = refl
played_are_shown (play ∷ plays) =
    let rest = played_are_shown plays in
    let both = length-append play.shown (all_shown plays) in
    omega (arith, rest, both)

no_more_plays : (plays : List Play) → All (λ (play : Play). 1 ≤ length play.shown) plays → length plays ≤ played_count plays
no_more_plays [] some = omega arith
no_more_plays (play ∷ plays) some =
    let one = All-head (λ (play : Play). 1 ≤ length play.shown) play plays some in
    let rest = no_more_plays plays (All-tail (λ (play : Play). 1 ≤ length play.shown) play plays some) in
    omega (arith, one, rest)

pub mark_is_shown :
    PlaysReachTheMark → (playout : Playout) (arrivals : List Arrival) (plays : List Play) (replies : List (Option Reply)) (state : State)
    → 1 ≤ playout.window → TakesAll (opening playout) arrivals plays replies state → state.mark ≡ length (all_shown plays)
mark_is_shown reach playout arrivals plays replies state some takes =
    let mark = (reach (opening playout) state arrivals plays replies some takes).0 in
    let shown = played_are_shown plays in
    omega (arith, mark, shown)

sum_within :
    (flow runs : ℕ) (arrivals : List Arrival) (plays : List Play) (replies : List (Option Reply))
    → length plays ≤ length (all_shown plays)
    → CountsWithin (sum_so_far flow runs arrivals plays replies) (length (all_shown plays))
sum_within flow runs arrivals plays replies some = record {
  shown = count_by-le-length shows_word (all_shown plays);
  repaired = count_by-le-length (λ (s : Shown). s.repaired) (all_shown plays);
  missing = count_by-le-length (λ (s : Shown). not (shows_word s)) (all_shown plays);
  windows = some;
  inconsistent = (let fewer = count_by-le-length is_inconsistent plays in omega (arith, fewer, some));
  gaps = (let end = gaps_end_within [] 0 (all_shown plays) (omega arith) in omega (arith, end));
}

pub counts_within : PlaysReachTheMark → (playout : Playout) (flow : ℕ) (state : State) (sum : FlowSum) → IsUnderway playout flow state sum → CountsWithin sum state.mark
counts_within reach playout flow state sum is =
    let taken = is.taken in
    let each = (reach (opening playout) state taken.arrivals taken.plays taken.replies is.fits.window.0 taken.takes).1 in
    let fewer = no_more_plays taken.plays each in
    let same = played_are_shown taken.plays in
    let mark = mark_is_shown reach playout taken.arrivals taken.plays taken.replies state is.fits.window.0 taken.takes in
    subst (λ (s : FlowSum). CountsWithin s state.mark) (sym taken.sum_is)
    (subst (λ (n : ℕ). CountsWithin (sum_so_far flow state.runs taken.arrivals taken.plays taken.replies) n) (sym mark)
    (sum_within flow state.runs taken.arrivals taken.plays taken.replies (omega (arith, fewer, same))))

-- The replies are fewer than the records.

marks_have_room :
    CountsStayWithin → (stream : Kind) (arrivals : List Arrival) (replies : List (Option Reply)) → length arrivals < 2 ^ 43
    → MarksHaveRoom (marks_of stream arrivals replies)
marks_have_room within stream arrivals replies few =
    let room : (reply : Option Reply) → count_of stream reply arrivals replies < 2 ^ 44 =
    λ reply. (let fewer = within stream reply arrivals replies in omega (arith, fewer, few)) in
    record {
      admitted = room (Some Admitted);
      duplicate = room (Some Duplicate);
      conflict = room (Some Conflict);
      late = room (Some Late);
      not_started = room (Some NotStarted);
      before_start = room (Some BeforeStart);
      ahead = room (Some Ahead);
      crowded = room (Some Crowded);
      bad = room None;
      foreign = room (Some Foreign);
    }

pub replies_have_room : CountsStayWithin → (playout : Playout) (flow : ℕ) (state : State) (sum : FlowSum) → IsUnderway playout flow state sum → RepliesHaveRoom sum
replies_have_room within playout flow state sum is =
    let taken = is.taken in
    let few = few_arrivals playout flow state sum is in
    let room : (stream : Kind) → MarksHaveRoom (marks_of stream taken.arrivals taken.replies) =
    λ stream. marks_have_room within stream taken.arrivals taken.replies few in
    subst RepliesHaveRoom (sym taken.sum_is) (room Media, room Column, room Row)
