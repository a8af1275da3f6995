-- Readings and faults exclude each other.
use Rattle.std.proofs.Common.{◌≡◌, ℕ, Bool, List, nat_eq, ◌∙◌, sym, subst}
use Rattle.fg_shape.specs.declared.layouts.LayoutFault.{LayoutFault}
use Rattle.fg_shape.specs.declared.encoding.Settings.{Settings}
use Rattle.fg_shape.specs.Limits.{FirstLayoutFault}
use Rattle.fg_shape.proofs.LimitLemmas.{no_layout_fault}
use Rattle.fg_flows.specs.Flows.{IsTable}
use Rattle.fg_flows.proofs.FlowLemmas.{no_fault}
use Rattle.fg_cli.specs.declared.Order.{Order}
use Rattle.fg_cli.specs.declared.Order.TheVariants as order
use Rattle.fg_cli.specs.declared.WordFault.{WordFault}
use Rattle.fg_cli.specs.declared.WordFault.TheVariants as fault
use Rattle.fg_cli.specs.declared.grammar.Command.{Command}
use Rattle.fg_cli.specs.declared.grammar.Command.TheVariants as command
use Rattle.fg_cli.specs.declared.grammar.Key.TheVariants as key
use Rattle.fg_cli.specs.declared.settings.Setting.{Setting}
use Rattle.fg_cli.specs.Grammar.{Knows}
use Rattle.fg_cli.specs.Lines.{IsLine, number_of, values_of}
use Rattle.fg_cli.specs.Orders.{AreSettings, AreWhole, FirstFault, FirstOfLine, IsOrder, IsReading}
use Rattle.fg_cli.proofs.Lines.{one_line, line_begins}

-- an encoding that is set has a layout that is written
set_layout : (ss : List Setting) (s : Settings) (f : LayoutFault) → AreSettings ss s
    → FirstLayoutFault (number_of key.Columns ss) (number_of key.Rows ss) (nat_eq (number_of key.Fec ss) 1) f → ⊥
set_layout ss s f x y =
    let A : ℕ → Type 0 = λ n. FirstLayoutFault n (number_of key.Rows ss) (nat_eq (number_of key.Fec ss) 1) f in
    let B : ℕ → Type 0 = λ n. FirstLayoutFault s.layout.l n (nat_eq (number_of key.Fec ss) 1) f in
    let C : Bool → Type 0 = λ b. FirstLayoutFault s.layout.l s.layout.d b f in
    no_layout_fault s.layout.l s.layout.d s.layout.rows f s.layout.accepted
    (subst C (sym x.both) (subst B (sym x.rows) (subst A (sym x.columns) y)))

-- what an order says of its layout and its flows
order_layout : (c : Command) (ss : List Setting) (o : Order) → IsOrder c ss o → Knows c key.Columns → (s : Settings) × AreSettings ss s
order_layout command.Encode ss (order.Encode s m) x k = (s, x.0)
order_layout command.Drill ss (order.Drill s p l m) x k = (s, x.0)
order_layout command.Encode ss _ x k = absurd x
order_layout command.Drill ss _ x k = absurd x
order_layout _ ss o x k = absurd (cc)

table_at : (a b : List ℕ) → a ≡ b → IsTable a → IsTable b
table_at a b e h = let P : List ℕ → Type 0 = λ l. IsTable l in subst P e h

order_flows : (c : Command) (ss : List Setting) (o : Order) → IsOrder c ss o → Knows c key.Flow → IsTable (values_of key.Flow ss)
order_flows command.Repair ss (order.Repair plan) x k = table_at plan.table (values_of key.Flow ss) x.flows x.table
order_flows command.Inspect ss (order.Inspect table m) x k = table_at table (values_of key.Flow ss) x.0 x.1
order_flows command.Prove ss (order.Prove plan) x k = table_at plan.table (values_of key.Flow ss) x.flows x.table
order_flows command.Repair ss _ x k = absurd x
order_flows command.Inspect ss _ x k = absurd x
order_flows command.Prove ss _ x k = absurd x
order_flows _ ss o x k = absurd (cc)

line_has_no_fault : (c : Command) (ss : List Setting) (o : Order) (f : WordFault) → AreWhole c ss → IsOrder c ss o → FirstOfLine c ss f → ⊥
line_has_no_fault c ss o fault.NoCommand whole x y = y
line_has_no_fault c ss o (fault.BadWord i) whole x y = y
line_has_no_fault c ss o (fault.Missing name) whole x y = (let none = whole.whole in cc)
line_has_no_fault c ss o (fault.Depth i) whole x y = whole.deep y.1
line_has_no_fault c ss o (fault.Layout f) whole x y = (let s = order_layout c ss o x y.1 in set_layout ss s.0 f s.1 y.2)
line_has_no_fault c ss o (fault.Flows f) whole x y = no_fault (values_of key.Flow ss) f (order_flows c ss o x y.1) y.2

-- a fault of the one line of the words
pub same_fault : (words : List (List ℕ)) (b c : Command) (xs ys : List Setting) (f : WordFault) → IsLine words b xs → IsLine words c ys → FirstOfLine c ys f → FirstOfLine b xs f
same_fault words b c xs ys f p q y =
    let one = one_line words b c xs ys p q in
    let P : Command → Type 0 = λ x. FirstOfLine x ys f in
    let Q : List Setting → Type 0 = λ x. FirstOfLine b x f in
    subst Q (sym one.1) (subst P (sym one.0) y)

pub reading_has_no_fault : (words : List (List ℕ)) (o : Order) (f : WordFault) → IsReading words o → FirstFault words f → ⊥
reading_has_no_fault words o fault.NoCommand r y = (let e = sym y ∙ r.2.spelled in cc)
reading_has_no_fault words o (fault.BadWord i) r y = y.2 (line_begins words r.0 r.1 i r.2)
reading_has_no_fault words o (fault.Missing name) r y = line_has_no_fault r.0 r.1 o (fault.Missing name) r.3 r.4 (same_fault words r.0 y.0 r.1 y.1 (fault.Missing name) r.2 y.2 y.3)
reading_has_no_fault words o (fault.Depth i) r y = line_has_no_fault r.0 r.1 o (fault.Depth i) r.3 r.4 (same_fault words r.0 y.0 r.1 y.1 (fault.Depth i) r.2 y.2 y.3)
reading_has_no_fault words o (fault.Layout f) r y = line_has_no_fault r.0 r.1 o (fault.Layout f) r.3 r.4 (same_fault words r.0 y.0 r.1 y.1 (fault.Layout f) r.2 y.2 y.3)
reading_has_no_fault words o (fault.Flows f) r y = line_has_no_fault r.0 r.1 o (fault.Flows f) r.3 r.4 (same_fault words r.0 y.0 r.1 y.1 (fault.Flows f) r.2 y.2 y.3)
