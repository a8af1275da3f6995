use Rattle.std.proofs.Common.{◌≡◌, [], Option, Some, Bor, IfSome, sym, subst}
use Rattle.std.specs.FinMap.{get}
use Rattle.fg_peel.specs.declared.Line.{Line}
use Rattle.fg_playout.specs.State.{Live}
use Rattle.fg_buffer.specs.LiveEquations.{live_of}
use Rattle.fg_desk.specs.Contents.{Contents}
use Rattle.fg_playout.specs.Facts.{Holds}
use Rattle.fg_core.specs.Board.{JobState, IsJobOf}
use Rattle.fg_core.specs.Flow.{board_of, IsReady}
use Rattle.fg_core.specs.declared.key.Key.{Key}
use Rattle.fg_core.proofs.Opening.{ready_line, are_work, job_is}
use Rattle.fg_core.proofs.open.work_of.Goals as goal

abbrev IsAtKey : Contents → Key → Option (Bor Line) → Type 0
IsAtKey desk key found =
    IfSome found (λ line. (get desk.state.equations line.now.serial ≡ Some (live_of line.now)) × (line.now.place ≡ key.place))

-- The line at the key's place is that of an equation that has work.
has_work :
    (desk : Contents) (key : Key) (live : Live) (found : Option (Bor Line)) (line : Bor Line) → Holds desk.state
    → IsReady desk key live → found ≡ Some line → IsAtKey desk key found
    → (live_of line.now ≡ live) × IsReady desk key (live_of line.now)
has_work desk key live found line facts ready is at =
    let there = subst (λ (o : Option (Bor Line)). IsAtKey desk key o) is at in
    let same = ready_line desk facts key live ready line.now there.0 there.1 in
    (same, subst (λ (l : Live). IsReady desk key l) (sym same) ready)

pub shares_of-requires-clause-shape : goal.shares_of-requires-clause-shape
shares_of-requires-clause-shape c =
    let facts = c.facts.ensures.facts in
    let own = has_work c.args.desk.now c.args.key c.requires.0 c.line.result c.unwrap-line.result facts c.requires.1 c.unwrap-line.ensures c.line.ensures.some in
    (facts.live c.args.key.serial (live_of c.unwrap-line.result.now) own.1.live_is).shape

pub shares_of-requires-clause-base : goal.shares_of-requires-clause-base
shares_of-requires-clause-base c =
    let facts = c.facts.ensures.facts in
    let own = has_work c.args.desk.now c.args.key c.requires.0 c.line.result c.unwrap-line.result facts c.requires.1 c.unwrap-line.ensures c.line.ensures.some in
    (facts.live c.args.key.serial (live_of c.unwrap-line.result.now) own.1.live_is).base

pub new-requires : goal.new-requires
new-requires c =
    let key : Key = c.args.key in
    let line : Line = c.unwrap-line.result.now in
    let facts = c.facts.ensures.facts in
    let own = has_work c.args.desk.now key c.requires.0 c.line.result c.unwrap-line.result facts c.requires.1 c.unwrap-line.ensures c.line.ensures.some in
    let read = facts.live key.serial (live_of line) own.1.live_is in
    are_work c.args.desk.now key line own.1 read.shape c.in_ok-shares.shares.items c.in_ok-shares.ensures c.in_ok-parity.parity read.base c.in_ok-parity.ensures.1

pub returns-clause-job : goal.returns-clause-job
returns-clause-job c live ready =
    let desk : Contents = c.args.desk.now in
    let key : Key = c.args.key in
    let line : Line = c.unwrap-line.result.now in
    let facts = c.facts.ensures.facts in
    let own = has_work desk key live c.line.result c.unwrap-line.result facts ready c.unwrap-line.ensures c.line.ensures.some in
    subst (λ (l : Live). IsJobOf (board_of desk []) l c.new.result) own.0
    (subst (λ (job : JobState). IsJobOf (board_of desk []) (live_of line) job) (sym c.new.ensures)
    (job_is desk key line own.1 (facts.live key.serial (live_of line) own.1.live_is).shape c.in_ok-shares.shares.items c.in_ok-shares.ensures
    c.in_ok-parity.parity c.in_ok-parity.ensures.0))
