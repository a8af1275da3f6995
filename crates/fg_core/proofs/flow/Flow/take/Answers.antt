use Rattle.std.proofs.Common.{◌≡◌, ◌≤◌, ℕ, [], sym, ap, subst, ◌∙◌}
use Rattle.std.specs.FinSet.{insert}
use Rattle.fg_playout.specs.State.{Live}
use Rattle.fg_desk.specs.Contents.{Contents}
use Rattle.fg_core.specs.Board.{BoardState, JobState, IsOpen, IsJobOf, VouchedAreComplete}
use Rattle.fg_core.specs.Flow.{board_of, IsKeyOfOpen, IsReady}
use Rattle.fg_core.specs.declared.key.Key.{Key}
use Rattle.fg_core.proofs.Opening.{ready_of, job_on}
use Rattle.fg_core.proofs.Holding.{desk_of, notes_of}
use Rattle.fg_core.proofs.flow.Flow.take.Goals as goal

pub next_open-requires-clause-vouched : goal.next_open-requires-clause-vouched
next_open-requires-clause-vouched c =
    subst VouchedAreComplete
    (sym ((λ i. board_of (desk_of c.deref.ensures i) (notes_of c.deref-2.ensures i)) ∙ c.self.view_is)) c.requires

pub returns-clause-taken : goal.returns-clause-taken
returns-clause-taken c =
    let now : BoardState = c.args.self.now in
    let key : Key = c.in-Some.key in
    let work : JobState = c.in_ok-work.work in
    let board_is : board_of c.deref.result.now.desk c.deref-2.result.now.notes ≡ now =
    (λ i. board_of (desk_of c.deref.ensures i) (notes_of c.deref-2.ensures i)) ∙ c.self.view_is in
    let desk_is : c.deref-3.result.now.desk ≡ now.desk =
    desk_of c.deref-3.ensures ∙ ap (λ (b : BoardState). b.desk) c.self.view_is in
    let opened : IsKeyOfOpen now key = subst (λ (b : BoardState). IsKeyOfOpen b key) board_is c.in-Some.ensures.open in
    let least : (serial : ℕ) (live : Live) → IsOpen now serial live → key.serial ≤ serial =
    subst (λ (b : BoardState). (serial : ℕ) (live : Live) → IsOpen b serial live → key.serial ≤ serial) board_is c.in-Some.ensures.least in
    let ready = ready_of now key opened.0 opened.1 opened.2 in
    let job : IsJobOf now opened.0 work =
    job_on now opened.0 work
    (subst (λ (d : Contents). IsReady d key opened.0 → IsJobOf (board_of d []) opened.0 work) desk_is (c.in_ok-work.ensures.job opened.0) ready) in
    subst (λ (k : Key). ((live : Live) × IsOpen now k.serial live × IsJobOf now live work)
    × ((serial : ℕ) (live : Live) → IsOpen now serial live → k.serial ≤ serial)
    × (c.hand.new.self ≡ record now { handed_out = insert now.handed_out k.serial })) (sym c.in_ok-work.ensures.key)
    ((opened.0, opened.1, job), least, c.hand.ensures)
