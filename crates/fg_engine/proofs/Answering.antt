-- One more reply is counted.
use Rattle.std.proofs.Common.{◌≡◌, ◌+◌, ◌==◌, ◌&&◌, ℕ, cond, List, [], ◌∷◌, ◌++◌, length, Option, Some, None, refl, sym, ap, ◌∙◌, arith}
use Rattle.fg_shape.specs.declared.kind.Kind.{Kind}
use Rattle.fg_shape.specs.declared.kind.Kind.TheVariants as kind
use Rattle.fg_playout.specs.declared.reply.Reply.{Reply}
use Rattle.fg_playout.specs.declared.reply.Reply.TheVariants.{Admitted, Duplicate, Conflict, Late, NotStarted, BeforeStart, Ahead, Crowded, Foreign}
use Rattle.fg_playout.specs.Play.{Play}
use Rattle.fg_playout.specs.Run.{Arrival, carries, protects, refused, came_by, kind_number, reply_number, count_of}
use Rattle.fg_playout.specs.Laws.{CountsAdd}
use Rattle.fg_report.specs.declared.marks.Marks.{Marks}
use Rattle.fg_report.specs.declared.flow_sum.FlowSum.{FlowSum}
use Rattle.fg_results.specs.Flow.{IsReadAsMedia, IsReadAsParity, IsReadAs, marks_of}
use Rattle.fg_engine.specs.Steps.{with_reply, with_answer, sum_so_far}

-- Marks with so many more of each reply.
abbrev plus : Marks → (Option Reply → ℕ) → Marks
plus marks more = record {
  admitted = marks.admitted + more (Some Admitted);
  duplicate = marks.duplicate + more (Some Duplicate);
  conflict = marks.conflict + more (Some Conflict);
  late = marks.late + more (Some Late);
  not_started = marks.not_started + more (Some NotStarted);
  before_start = marks.before_start + more (Some BeforeStart);
  ahead = marks.ahead + more (Some Ahead);
  crowded = marks.crowded + more (Some Crowded);
  bad = marks.bad + more None;
  foreign = marks.foreign + more (Some Foreign);
}

zero : (n : ℕ) → n + 0 ≡ n
zero n = omega arith

plus_none : (marks : Marks) → plus marks (λ _. 0) ≡ marks
plus_none marks = λ i. record {
  admitted = zero marks.admitted i;
  duplicate = zero marks.duplicate i;
  conflict = zero marks.conflict i;
  late = zero marks.late i;
  not_started = zero marks.not_started i;
  before_start = zero marks.before_start i;
  ahead = zero marks.ahead i;
  crowded = zero marks.crowded i;
  bad = zero marks.bad i;
  foreign = zero marks.foreign i;
}

-- A one where it is this reply.
abbrev one_at : Option Reply → Option Reply → ℕ
one_at answer reply = cond (reply_number answer == reply_number reply) 1 0

plus_one : (marks : Marks) (answer : Option Reply) → plus marks (one_at answer) ≡ with_reply marks answer
plus_one marks (Some Admitted) = λ i. record (plus_none marks i) { admitted = marks.admitted + 1 }
plus_one marks (Some Duplicate) = λ i. record (plus_none marks i) { duplicate = marks.duplicate + 1 }
plus_one marks (Some Conflict) = λ i. record (plus_none marks i) { conflict = marks.conflict + 1 }
plus_one marks (Some Late) = λ i. record (plus_none marks i) { late = marks.late + 1 }
plus_one marks (Some NotStarted) = λ i. record (plus_none marks i) { not_started = marks.not_started + 1 }
plus_one marks (Some BeforeStart) = λ i. record (plus_none marks i) { before_start = marks.before_start + 1 }
plus_one marks (Some Ahead) = λ i. record (plus_none marks i) { ahead = marks.ahead + 1 }
plus_one marks (Some Crowded) = λ i. record (plus_none marks i) { crowded = marks.crowded + 1 }
plus_one marks (Some Foreign) = λ i. record (plus_none marks i) { foreign = marks.foreign + 1 }
plus_one marks None = λ i. record (plus_none marks i) { bad = marks.bad + 1 }

-- What an arrival by this stream adds to a stream's counts.
abbrev adds : Kind → Kind → Option Reply → Option Reply → ℕ
adds by stream answer reply = cond ((kind_number by == kind_number stream) && (reply_number answer == reply_number reply)) 1 0

marks_more :
    CountsAdd → (stream : Kind) (arrivals : List Arrival) (arrival : Arrival) (replies : List (Option Reply)) (answer : Option Reply)
    → length arrivals ≡ length replies
    → marks_of stream (arrivals ++ arrival ∷ []) (replies ++ answer ∷ [])
    ≡ plus (marks_of stream arrivals replies) (adds (came_by arrival) stream answer)
marks_more add stream arrivals arrival replies answer same =
    let more : (reply : Option Reply) → count_of stream reply (arrivals ++ arrival ∷ []) (replies ++ answer ∷ [])
    ≡ count_of stream reply arrivals replies + adds (came_by arrival) stream answer reply =
    λ reply. add stream reply answer arrivals arrival replies same in
    λ i. record {
      admitted = more (Some Admitted) i;
      duplicate = more (Some Duplicate) i;
      conflict = more (Some Conflict) i;
      late = more (Some Late) i;
      not_started = more (Some NotStarted) i;
      before_start = more (Some BeforeStart) i;
      ahead = more (Some Ahead) i;
      crowded = more (Some Crowded) i;
      bad = more None i;
      foreign = more (Some Foreign) i;
    }

-- What an arrival by this stream adds to the three streams' counts.
abbrev adds_all : Kind → Option Reply → FlowSum → FlowSum
adds_all by answer sum = record sum {
  media = plus sum.media (adds by kind.Media answer);
  column = plus sum.column (adds by kind.Column answer);
  row = plus sum.row (adds by kind.Row answer);
}

answered : (kind : Kind) (answer : Option Reply) (sum : FlowSum) → adds_all kind answer sum ≡ with_answer kind sum answer
answered kind.Media answer sum =
    λ i. record sum { media = plus_one sum.media answer i; column = plus_none sum.column i; row = plus_none sum.row i }
answered kind.Column answer sum =
    λ i. record sum { media = plus_none sum.media i; column = plus_one sum.column answer i; row = plus_none sum.row i }
answered kind.Row answer sum =
    λ i. record sum { media = plus_none sum.media i; column = plus_none sum.column i; row = plus_one sum.row answer i }

came_on_media : (bytes : List ℕ) (arrival : Arrival) → IsReadAsMedia bytes arrival → came_by arrival ≡ kind.Media
came_on_media bytes (carries time seq ssrc word) read = refl
came_on_media bytes (protects time by parity) read = absurd read
came_on_media bytes (refused time by) read = read.0

came_on_parity : (kind : Kind) (bytes : List ℕ) (arrival : Arrival) → IsReadAsParity kind bytes arrival → came_by arrival ≡ kind
came_on_parity kind bytes (carries time seq ssrc word) read = absurd read
came_on_parity kind bytes (protects time by parity) read = read.0
came_on_parity kind bytes (refused time by) read = read.0

came_by_its_stream : (kind : Kind) (bytes : List ℕ) (arrival : Arrival) → IsReadAs kind bytes arrival → came_by arrival ≡ kind
came_by_its_stream kind.Media bytes arrival read = came_on_media bytes arrival read
came_by_its_stream kind.Column bytes arrival read = came_on_parity kind.Column bytes arrival read
came_by_its_stream kind.Row bytes arrival read = came_on_parity kind.Row bytes arrival read

pub answer_added :
    CountsAdd → (flow runs : ℕ) (came : Kind) (bytes : List ℕ) (arrivals : List Arrival) (arrival : Arrival) (plays : List Play)
    (replies : List (Option Reply)) (answer : Option Reply) → length arrivals ≡ length replies → IsReadAs came bytes arrival
    → with_answer came (sum_so_far flow runs arrivals plays replies) answer
    ≡ sum_so_far flow runs (arrivals ++ arrival ∷ []) plays (replies ++ answer ∷ [])
answer_added add flow runs came bytes arrivals arrival plays replies answer same read =
    let sum = sum_so_far flow runs arrivals plays replies in
    let media = marks_more add kind.Media arrivals arrival replies answer same in
    let column = marks_more add kind.Column arrivals arrival replies answer same in
    let row = marks_more add kind.Row arrivals arrival replies answer same in
    let more : sum_so_far flow runs (arrivals ++ arrival ∷ []) plays (replies ++ answer ∷ []) ≡ adds_all (came_by arrival) answer sum =
    λ i. record sum { media = media i; column = column i; row = row i } in
    sym (more ∙ ap (λ (by : Kind). adds_all by answer sum) (came_by_its_stream came bytes arrival read) ∙ answered came answer sum)
