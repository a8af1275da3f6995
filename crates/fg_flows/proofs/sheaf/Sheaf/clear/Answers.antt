use Rattle.std.proofs.Common.{◌≡◌, length, List, ap, sym, subst, ◌∙◌, arith}
use Rattle.std.specs.Global.{Vec}
use Rattle.std.specs.Vec.{with_items}
use Rattle.std.proofs.lemmas.List.{length-map, with_items_is}
use Rattle.fg_flows.specs.declared.sheaf.Entry.{Entry}
use Rattle.fg_flows.specs.Sheaf.{SheafState}
use Rattle.fg_flows.specs.Entries.{AreHeld, items_in, said_by}
use Rattle.fg_flows.proofs.SheafLemmas.{nothing_held, nothing_said}
use Rattle.fg_flows.proofs.sheaf.Sheaf.clear.Goals as goal

pub invariant_of-self : goal.invariant_of-self
invariant_of-self c =
    let left : (with_items c.self.inside.flows c.clear_flows.new.flows).items ≡ c.clear_flows.new.flows =
    with_items_is c.self.inside.flows c.clear_flows.new.flows (c.clear_flows.auto.flows ∙ ap length c.deref_mut.ensures.value ∙ sym c.self.inside.flows.ok.0)
    in
    subst (λ (flows : List (Vec Entry)). AreHeld c.clear.new.self flows 0) (sym left)
    (nothing_held c.clear.new.self c.clear_flows.new.flows c.clear.ensures.items (omega (arith, c.clear.ensures.capacity, c.self.invariant.room))
    c.clear_flows.ensures.empty c.clear_flows.ensures.room)

pub returns : goal.returns
returns c =
    let left : (with_items c.self.inside.flows c.clear_flows.new.flows).items ≡ c.clear_flows.new.flows =
    with_items_is c.self.inside.flows c.clear_flows.new.flows (c.clear_flows.auto.flows ∙ ap length c.deref_mut.ensures.value ∙ sym c.self.inside.flows.ok.0)
    in
    let size : length c.clear_flows.new.flows ≡ length c.args.self.now.items =
    c.clear_flows.auto.flows ∙ ap length c.deref_mut.ensures.value ∙ sym (length-map c.self.inside.flows.items (items_in c.self.inside.bytes.items))
    ∙ ap (λ (sheaf : SheafState). length sheaf.items) c.self.view_is
    in
    ap (λ (flows : List (Vec Entry)). said_by c.clear.new.self.items flows) left
    ∙ nothing_said c.clear.new.self.items c.clear_flows.new.flows (length c.args.self.now.items) c.clear_flows.ensures.empty size
