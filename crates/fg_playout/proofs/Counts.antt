-- How the replies of a run are counted.
use Rattle.std.proofs.Common.{◌≡◌, ◌≤◌, ◌==◌, ℕ, Bool, true, false, cond, [], ◌∷◌, get_or, Option, Some, None, refl, sym, ap, ◌∙◌, arith}
use Rattle.std.proofs.lemmas.Bool.{and_parts, and_from}
use Rattle.std.proofs.lemmas.Bool.Decides.{Decides-eqb}
use Rattle.fg_playout.specs.declared.reply.Reply.{Reply}
use Rattle.fg_playout.specs.declared.reply.Reply.TheVariants.{Admitted, Duplicate, Conflict, Late, NotStarted, BeforeStart, Ahead, Crowded, Foreign}
use Rattle.fg_shape.specs.declared.kind.Kind.{Kind}
use Rattle.fg_shape.specs.declared.kind.Kind.TheVariants.{Media, Column, Row}
use Rattle.fg_playout.specs.Run.{came_by, kind_number, reply_number, is_counted}
use Rattle.fg_playout.specs.Laws.{CountsAreOfReplies, CountsAdd, CountsStayWithin}

stream_at : ℕ → Kind
stream_at n = get_or (Media ∷ Column ∷ []) n Row

stream_is : (stream : Kind) → stream_at (kind_number stream) ≡ stream
unfolding stream_at
stream_is Media = refl
stream_is Column = refl
stream_is Row = refl

reply_at : ℕ → Option Reply
reply_at n =
    get_or
    (Some Admitted ∷ Some Duplicate ∷ Some Conflict ∷ Some Late ∷ Some NotStarted ∷ Some BeforeStart ∷ Some Ahead ∷ Some Crowded ∷ Some Foreign ∷ [])
    n None

reply_is : (reply : Option Reply) → reply_at (reply_number reply) ≡ reply
unfolding reply_at
reply_is (Some Admitted) = refl
reply_is (Some Duplicate) = refl
reply_is (Some Conflict) = refl
reply_is (Some Late) = refl
reply_is (Some NotStarted) = refl
reply_is (Some BeforeStart) = refl
reply_is (Some Ahead) = refl
reply_is (Some Crowded) = refl
reply_is (Some Foreign) = refl
reply_is None = refl

pub counts_are_of_replies : CountsAreOfReplies
counts_are_of_replies stream reply answer arrival = (
  λ is.
      let both = and_parts (kind_number (came_by arrival) == kind_number stream) (reply_number answer == reply_number reply) is in
      let streams = (Decides-eqb (kind_number (came_by arrival)) (kind_number stream)).0 both.0 in
      let replies = (Decides-eqb (reply_number answer) (reply_number reply)).0 both.1 in (
        sym (stream_is (came_by arrival)) ∙ ap stream_at streams ∙ stream_is stream,
        sym (reply_is answer) ∙ ap reply_at replies ∙ reply_is reply,
      ),
  λ both. and_from (kind_number (came_by arrival) == kind_number stream) (reply_number answer == reply_number reply)
      ((Decides-eqb (kind_number (came_by arrival)) (kind_number stream)).1 (ap kind_number both.0))
      ((Decides-eqb (reply_number answer) (reply_number reply)).1 (ap reply_number both.1)),
)

pub counts_add : CountsAdd
counts_add stream reply answer [] arrival [] same = omega arith
counts_add stream reply answer [] arrival (other ∷ answers) same = absurd (omega (arith, same))
counts_add stream reply answer (other ∷ arrivals) arrival [] same = absurd (omega (arith, same))
counts_add stream reply answer (other ∷ arrivals) arrival (other' ∷ answers) same =
    let rest = counts_add stream reply answer arrivals arrival answers (omega (arith, same)) in omega (arith, rest)

pub at_most_one : (b : Bool) → cond b 1 0 ≤ 1
at_most_one true = omega arith
at_most_one false = omega arith

pub counts_stay_within : CountsStayWithin
counts_stay_within stream reply [] answers = omega arith
counts_stay_within stream reply (arrival ∷ arrivals) [] = omega arith
counts_stay_within stream reply (arrival ∷ arrivals) (answer ∷ answers) =
    let rest = counts_stay_within stream reply arrivals answers in
    let one = at_most_one (is_counted stream reply arrival answer) in
    omega (arith, rest, one)
