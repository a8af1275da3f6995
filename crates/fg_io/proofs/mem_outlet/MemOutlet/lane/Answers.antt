-- The lane is that of the keeper at the port's place.
use Rattle.std.proofs.Common.{◌≡◌, ◌==◌, ◌∙◌, Some, position, sym, ap}
use Rattle.std.specs.Option.{option_copied}
use Rattle.fg_io.specs.MemOutlet.{keeper_lanes}
use Rattle.fg_io.proofs.KeeperLemmas.{keeper_lanes-found, keeper_lanes-none}
use Rattle.fg_io.proofs.mem_outlet.MemOutlet.lane.Goals as goal

pub returns-in_err-at : goal.returns-in_err-at
returns-in_err-at c =
    ap option_copied c.from_residual.ensures
    ∙ sym (keeper_lanes-none c.deref.result.now c.args.port (sym c.place_of.ensures ∙ c.in_err-at.was))
    ∙ ap (λ keepers. keeper_lanes keepers c.args.port) (c.deref.ensures.value ∙ ap (λ outlet. outlet.keepers) c.self.view_is)

pub returns : goal.returns
returns c =
    let items = c.self.inside.keepers.items in
    let at_port : position (λ keeper. keeper.port == c.args.port) items ≡ Some c.in_ok-at.at =
    ap (position (λ keeper. keeper.port == c.args.port)) (sym c.deref.ensures.value) ∙ sym c.place_of.ensures ∙ c.in_ok-at.was in
    c.lane.ensures ∙ ap (λ keeper. keeper.lane) c.index.ensures
    ∙ sym (keeper_lanes-found items c.args.port c.in_ok-at.at c.index.result.now at_port)
    ∙ ap (λ outlet. keeper_lanes outlet.keepers c.args.port) c.self.view_is
