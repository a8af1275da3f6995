-- Two orders of one command with the same settings are equal.
use Rattle.std.proofs.Common.{◌≡◌, ℕ, Bool, List, [], ◌∷◌, refl, ap, ◌∙◌, sym, subst}
use Rattle.std.proofs.Props.{props}
use Rattle.fg_shape.specs.declared.layouts.Layout.{Layout}
use Rattle.fg_shape.specs.declared.encoding.Settings.{Settings}
use Rattle.fg_shape.specs.declared.encoding.Losses.{Losses}
use Rattle.fg_shape.specs.Limits.{IsLayout}
use Rattle.fg_flows.specs.declared.Plan.{Plan}
use Rattle.fg_flows.specs.declared.selection.Selection.{Selection}
use Rattle.fg_cli.specs.declared.Order.{Order}
use Rattle.fg_cli.specs.declared.Order.TheVariants as order
use Rattle.fg_cli.specs.declared.grammar.Command.{Command}
use Rattle.fg_cli.specs.declared.grammar.Command.TheVariants as command
use Rattle.fg_cli.specs.declared.settings.Setting.{Setting}
use Rattle.fg_cli.specs.Orders.{AreLosses, AreSettings, IsOrder, IsPlan, IsReading, IsSelection}
use Rattle.fg_cli.proofs.Lines.{one_line}

abbrev made : (l d : ℕ) (rows staggered : Bool) → IsLayout l d rows → Layout
made l d rows staggered x = record { l = l; d = d; rows = rows; staggered = staggered; accepted = x }

accepted_once : (l d : ℕ) (rows : Bool) (x y : IsLayout l d rows) → x ≡ y
accepted_once l d rows x y = (let once : IsProp (IsLayout l d rows) = hlevel props in once x y)

same_layout_at :
    (l d : ℕ) (rows staggered : Bool) (x : IsLayout l d rows) (m e : ℕ) (both other : Bool) (y : IsLayout m e both)
    → l ≡ m → d ≡ e → rows ≡ both → staggered ≡ other → made l d rows staggered x ≡ made m e both other y
same_layout_at l d rows staggered x m e both other y p q r s =
    let A : ℕ → Type 0 = λ n. (z : IsLayout n d rows) → made l d rows staggered x ≡ made n d rows staggered z in
    let a = subst A p (λ z. ap (λ w. made l d rows staggered w) (accepted_once l d rows x z)) in
    let B : ℕ → Type 0 = λ n. (z : IsLayout m n rows) → made l d rows staggered x ≡ made m n rows staggered z in
    let b = subst B q a in
    let C : Bool → Type 0 = λ n. (z : IsLayout m e n) → made l d rows staggered x ≡ made m e n staggered z in
    let c = subst C r b in
    let D : Bool → Type 0 = λ n. made l d rows staggered x ≡ made m e both n y in
    subst D s (c y)

same_layout : (a b : Layout) → a.l ≡ b.l → a.d ≡ b.d → a.rows ≡ b.rows → a.staggered ≡ b.staggered → a ≡ b
same_layout a b p q r s = same_layout_at a.l a.d a.rows a.staggered a.accepted b.l b.d b.rows b.staggered b.accepted p q r s

same_settings : (ss : List Setting) (a b : Settings) → AreSettings ss a → AreSettings ss b → a ≡ b
same_settings ss a b x y =
    let layout : a.layout ≡ b.layout = same_layout a.layout b.layout (x.columns ∙ sym y.columns) (x.rows ∙ sym y.rows) (x.both ∙ sym y.both) (x.staggered ∙ sym y.staggered) in
    let packets : a.packets ≡ b.packets = x.packets ∙ sym y.packets in
    let rate : a.rate ≡ b.rate = x.rate ∙ sym y.rate in
    let port : a.port ≡ b.port = x.port ∙ sym y.port in
    let seq : a.seq ≡ b.seq = x.seq ∙ sym y.seq in
    let ssrc : a.ssrc ≡ b.ssrc = x.ssrc ∙ sym y.ssrc in
    let stamp : a.stamp ≡ b.stamp = x.stamp ∙ sym y.stamp in
    λ i. record { layout = layout i; packets = packets i; rate = rate i; port = port i; seq = seq i; ssrc = ssrc i; stamp = stamp i }

same_plan : (ss : List Setting) (ports other : List ℕ) (bytes : ℕ) (a b : Plan) → ports ≡ other → IsPlan ss ports bytes a → IsPlan ss other bytes b → a ≡ b
same_plan ss ports other bytes a b e x y =
    let table : a.table ≡ b.table = x.flows ∙ e ∙ sym y.flows in
    let window : a.window ≡ b.window = x.window ∙ sym y.window in
    let depth : a.depth ≡ b.depth = x.depth ∙ sym y.depth in
    let hold : a.hold ≡ b.hold = x.hold ∙ sym y.hold in
    let workers : a.workers ≡ b.workers = x.workers ∙ sym y.workers in
    let max : a.max ≡ b.max = x.max ∙ sym y.max in
    λ i. record { table = table i; window = window i; depth = depth i; hold = hold i; workers = workers i; max = max i }

same_losses : (ss : List Setting) (a b : Losses) → AreLosses ss a → AreLosses ss b → a ≡ b
same_losses ss a b x y =
    let drops : a.drops ≡ b.drops = x.drops ∙ sym y.drops in
    let every : a.every ≡ b.every = x.every ∙ sym y.every in
    λ i. record { drops = drops i; every = every i }

same_selection : (ss : List Setting) (a b : Selection) → IsSelection ss a → IsSelection ss b → a ≡ b
same_selection ss a b x y =
    let flows : a.flows ≡ b.flows = x.flows ∙ sym y.flows in
    let ports : a.ports ≡ b.ports = x.ports ∙ sym y.ports in
    let sources : a.sources ≡ b.sources = x.sources ∙ sym y.sources in
    let without : a.without ≡ b.without = x.without ∙ sym y.without in
    let from : a.from ≡ b.from = x.from ∙ sym y.from in
    let until : a.until ≡ b.until = x.until ∙ sym y.until in
    λ i. record { flows = flows i; ports = ports i; sources = sources i; without = without i; from = from i; until = until i }

same_order : (c : Command) (ss : List Setting) (a b : Order) → IsOrder c ss a → IsOrder c ss b → a ≡ b
same_order command.Repair ss (order.Repair p) (order.Repair q) x y = ap (λ z. order.Repair z) (same_plan ss _ _ _ p q refl x y)
same_order command.Encode ss (order.Encode s m) (order.Encode t n) x y =
    let settings = same_settings ss s t x.0 y.0 in
    let max : m ≡ n = x.1 ∙ sym y.1 in
    λ i. order.Encode (settings i) (max i)
same_order command.Drill ss (order.Drill s p l m) (order.Drill t q k n) x y =
    let settings : s ≡ t = same_settings ss s t x.0 y.0 in
    let ports : s.port ∷ [] ≡ t.port ∷ [] = ap (λ z. z.port ∷ []) settings in
    let plan = same_plan ss (s.port ∷ []) (t.port ∷ []) _ p q ports x.1 y.1 in
    let losses = same_losses ss l k x.2 y.2 in
    let max : m ≡ n = x.3 ∙ sym y.3 in
    λ i. order.Drill (settings i) (plan i) (losses i) (max i)
same_order command.Inspect ss (order.Inspect t m) (order.Inspect u n) x y =
    let table : t ≡ u = x.0 ∙ sym y.0 in
    let max : m ≡ n = x.2 ∙ sym y.2 in
    λ i. order.Inspect (table i) (max i)
same_order command.Sample ss (order.Sample s d l p) (order.Sample t e k q) x y =
    let seed : s ≡ t = x.0 ∙ sym y.0 in
    let datagrams : d ≡ e = x.1 ∙ sym y.1 in
    let loss : l ≡ k = x.2 ∙ sym y.2 in
    let plan = same_plan ss _ _ _ p q refl x.3 y.3 in
    λ i. order.Sample (seed i) (datagrams i) (loss i) (plan i)
same_order command.FromCapture ss (order.FromCapture m) (order.FromCapture n) x y = ap (λ z. order.FromCapture z) (x ∙ sym y)
same_order command.ToCapture ss (order.ToCapture m) (order.ToCapture n) x y = ap (λ z. order.ToCapture z) (x ∙ sym y)
same_order command.Monitor ss (order.Monitor m) (order.Monitor n) x y = ap (λ z. order.Monitor z) (x ∙ sym y)
same_order command.Prove ss (order.Prove p) (order.Prove q) x y = ap (λ z. order.Prove z) (same_plan ss _ _ _ p q refl x y)
same_order command.Check ss (order.Check m) (order.Check n) x y = ap (λ z. order.Check z) (x ∙ sym y)
same_order command.ChooseMatrix ss (order.ChooseMatrix b m r) (order.ChooseMatrix c n s) x y =
    let burst : b ≡ c = x.0 ∙ sym y.0 in
    let most : m ≡ n = x.1 ∙ sym y.1 in
    let rows : r ≡ s = x.2 ∙ sym y.2 in
    λ i. order.ChooseMatrix (burst i) (most i) (rows i)
same_order command.Survey ss (order.Survey m j) (order.Survey n k) x y =
    let max : m ≡ n = x.0 ∙ sym y.0 in
    let json : j ≡ k = x.1 ∙ sym y.1 in
    λ i. order.Survey (max i) (json i)
same_order command.Pick ss (order.Pick s m) (order.Pick t n) x y =
    let selection = same_selection ss s t x.0 y.0 in
    let max : m ≡ n = x.1 ∙ sym y.1 in
    λ i. order.Pick (selection i) (max i)
same_order command.Repair ss (order.Repair a0) _ x y = absurd y
same_order command.Repair ss _ b x y = absurd x
same_order command.Encode ss (order.Encode a0 a1) _ x y = absurd y
same_order command.Encode ss _ b x y = absurd x
same_order command.Drill ss (order.Drill a0 a1 a2 a3) _ x y = absurd y
same_order command.Drill ss _ b x y = absurd x
same_order command.Inspect ss (order.Inspect a0 a1) _ x y = absurd y
same_order command.Inspect ss _ b x y = absurd x
same_order command.Sample ss (order.Sample a0 a1 a2 a3) _ x y = absurd y
same_order command.Sample ss _ b x y = absurd x
same_order command.FromCapture ss (order.FromCapture a0) _ x y = absurd y
same_order command.FromCapture ss _ b x y = absurd x
same_order command.ToCapture ss (order.ToCapture a0) _ x y = absurd y
same_order command.ToCapture ss _ b x y = absurd x
same_order command.Monitor ss (order.Monitor a0) _ x y = absurd y
same_order command.Monitor ss _ b x y = absurd x
same_order command.Prove ss (order.Prove a0) _ x y = absurd y
same_order command.Prove ss _ b x y = absurd x
same_order command.Check ss (order.Check a0) _ x y = absurd y
same_order command.Check ss _ b x y = absurd x
same_order command.ChooseMatrix ss (order.ChooseMatrix a0 a1 a2) _ x y = absurd y
same_order command.ChooseMatrix ss _ b x y = absurd x
same_order command.Survey ss (order.Survey a0 a1) _ x y = absurd y
same_order command.Survey ss _ b x y = absurd x
same_order command.Pick ss (order.Pick a0 a1) _ x y = absurd y
same_order command.Pick ss _ b x y = absurd x

pub one_reading : (words : List (List ℕ)) (a b : Order) → IsReading words a → IsReading words b → a ≡ b
one_reading words a b x y =
    let one = one_line words x.0 y.0 x.1 y.1 x.2 y.2 in
    let P : Command → Type 0 = λ c. IsOrder c y.1 b in
    let Q : List Setting → Type 0 = λ l. IsOrder x.0 l b in
    same_order x.0 x.1 a b x.4 (subst Q (sym one.1) (subst P (sym one.0) y.4))
