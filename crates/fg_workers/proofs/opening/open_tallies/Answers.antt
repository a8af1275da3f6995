use Rattle.std.proofs.Common.{◌+◌, ◌<◌, length, rules, sym, ap, ◌∙◌, arith}
use Rattle.std.specs.Prelude.{⊤}
use Rattle.std.proofs.Math.Seq.{map-set_same}
use Rattle.std.proofs.lemmas.List.{length_push}
use Rattle.std.proofs.lemmas.List.Elements.{All-set}
use Rattle.fg_workers.specs.declared.post.Post.{Post}
use Rattle.fg_workers.specs.declared.post.Host.{Host}
use Rattle.fg_workers.specs.Crewed.{IsNewHost, HasNoPass}
use Rattle.fg_workers.proofs.Crewing.{alike_at, alike_long, reached_more}
use Rattle.fg_workers.proofs.opening.open_tallies.Goals as goal

pub open_tallies_of-requires-clause-host : goal.open_tallies_of-requires-clause-host
open_tallies_of-requires-clause-host c =
    let alike = c.loop-i.invariant.turns ∙ c.requires.hosts in
    let long = alike_long (λ (host : Host). host.admitter.seat.turn) (λ (post : Post). post.board.name) c.loop-i.hosts
    c.args.posts.now alike
    in
    let below : c.loop-i.i < length c.args.posts.now = search rules in
    alike_at (λ (host : Host). host.admitter.seat.turn) (λ (post : Post). post.board.name) c.loop-i.hosts c.args.posts.now
    c.loop-i.i c.index-hosts-i.result c.index-posts-i.result alike (omega (arith, long, below))
    ∙ sym (ap (λ (post : Post). post.board.name) c.index-posts-i.is)

pub loop-i-preserved : goal.loop-i-preserved
loop-i-preserved c =
    let hosts = c.loop-i.hosts in
    let i = c.loop-i.i in
    let host : Host = c.open_tallies_of.new.host in
    let long = alike_long (λ (host : Host). host.admitter.seat.turn) (λ (post : Post). post.board.name) hosts
    c.args.posts.now (c.loop-i.invariant.turns ∙ c.requires.hosts)
    in
    let below : c.loop-i.i < length c.args.posts.now = search rules in
    let within : i < length hosts = omega (arith, long, below) in
    record {
      count = ap length c.in_ok-push.ensures.items ∙ length_push c.loop-i.tallies.items _ ∙ ap (λ n. n + 1) c.loop-i.invariant.count;
      turns = map-set_same (λ (host : Host). host.admitter.seat.turn) hosts i host c.index-hosts-i.result
          c.in_ok-open_tallies_of.ensures.turn
          ∙ c.loop-i.invariant.turns;
      left = reached_more (λ _. ⊤) HasNoPass hosts i host within (λ _. tt) c.loop-i.invariant.left;
      new = λ playout all. let before = c.loop-i.invariant.new playout all in
          All-set (IsNewHost playout) hosts i host
          (c.in_ok-open_tallies_of.ensures.new playout (before i c.index-hosts-i.result within)) before;
    }
