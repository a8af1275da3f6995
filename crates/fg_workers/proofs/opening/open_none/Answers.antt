use Rattle.std.proofs.Common.{◌+◌, length, map, sym, ap, ◌∙◌, arith, List}
use Rattle.std.proofs.lemmas.List.{length_push}
use Rattle.fg_workers.specs.declared.post.Post.{Post}
use Rattle.fg_workers.specs.declared.post.Host.{Host}
use Rattle.fg_flows.specs.Plan.{playout_of}
use Rattle.fg_workers.specs.Crewed.{IsNewHost, HasSeats, HasNoPass}
use Rattle.fg_workers.proofs.Crewing.{all_none}
use Rattle.fg_workers.proofs.opening.open_none.Goals as goal

pub loop-init : goal.loop-init
loop-init c = ap length c.in_ok-owns.ensures.items

pub loop-preserved : goal.loop-preserved
loop-preserved c = ap length c.in_ok-push.ensures.items ∙ length_push c.loop.owns.items _ ∙ ap (λ n. n + 1) c.loop.invariant

pub returns : goal.returns
returns c = record {
  posts = ap length c.new.ensures.items;
  hosts = ap (λ (hosts : List Host). map (λ host. host.admitter.seat.turn) hosts) c.new-2.ensures.items
      ∙ sym (ap (λ (posts : List Post). map (λ post. post.board.name) posts) c.new.ensures.items);
  new_hosts = all_none (IsNewHost (playout_of c.args.plan.now)) c.new-2.result.items c.new-2.ensures.items;
  seats = all_none HasSeats c.new.result.items c.new.ensures.items;
  no_passes = all_none HasNoPass c.new-2.result.items c.new-2.ensures.items;
  workers = omega (arith, c.loop.invariant, c.loop-test.false, c.loop.auto.counter-end);
}
