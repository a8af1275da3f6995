use denote.Param.Send.{sendable}
use Rattle.std.proofs.Common.{◌≡◌, length, map, sym, ap, subst, ◌∙◌, List}
use Rattle.std.specs.List.{All}
use Rattle.std.proofs.lemmas.List.{with_items_is}
use Rattle.std.specs.Vec.{with_items}
use Rattle.fg_flows.specs.Plan.{playout_of}
use Rattle.fg_workers.specs.declared.post.Post.{Post}
use Rattle.fg_workers.specs.declared.post.Host.{Host}
use Rattle.fg_workers.specs.Crewed.{IsNewHost}
use Rattle.fg_workers.proofs.Crewing.{alike_long}
use Rattle.fg_workers.proofs.Crossing.{flow_tallies_sync}
use Rattle.fg_repair.proofs.crewed.with_tallies.Goals as goal

pub beside_workers-requires-clause-begins : goal.beside_workers-requires-clause-begins
beside_workers-requires-clause-begins g c κs within =
    let made = c.args.made in
    let playout = playout_of c.args.plan.now in
    let lent = c.open_tallies.auto.hosts ∙ ap length c.deref_mut.ensures.value in
    let hosts : (with_items made.hosts c.open_tallies.new.hosts).items ≡ c.open_tallies.new.hosts =
    with_items_is made.hosts c.open_tallies.new.hosts (lent ∙ sym made.hosts.ok.0)
    in
    record {
      count = ap length hosts ∙ lent
          ∙ alike_long (λ (host : Host). host.admitter.seat.turn) (λ (post : Post). post.board.name) made.hosts.items
          made.posts.items c.requires.made.hosts
          ∙ c.requires.made.posts;
      host_all = ap (λ (hosts : List Host). map (λ host. host.admitter.seat.turn) hosts) hosts ∙ c.in-Ok.ensures.hosts;
      new_hosts = subst (All (IsNewHost playout)) (sym hosts)
          (c.in-Ok.ensures.new playout
          (subst (All (IsNewHost playout)) (sym c.deref_mut.ensures.value) c.requires.made.new_hosts));
    }

pub beside_workers-requires-sync-P : goal.beside_workers-requires-sync-P
beside_workers-requires-sync-P g c κs within = search (sendable, flow_tallies_sync) depth 10
