-- What a command line orders, and the first rule that one breaks.
use Rattle.std.specs.Prelude.{◌≡◌, ◌+◌, ◌^◌, ◌<◌, ◌≤◌, ◌∷◌, [], ℕ, List, Some, None, length, nat_eq, slice_get, take}
use Rattle.fg_shape.specs.declared.encoding.Settings.{Settings}
use Rattle.fg_shape.specs.declared.encoding.Losses.{Losses}
use Rattle.fg_shape.specs.Limits.{FirstLayoutFault}
use Rattle.fg_shape.specs.Losses.{LossesFit}
use Rattle.fg_shape.specs.Settings.{SettingsFit}
use Rattle.fg_flows.specs.declared.Plan.{Plan}
use Rattle.fg_flows.specs.declared.selection.Selection.{Selection}
use Rattle.fg_flows.specs.Flows.{FirstFlowFault, IsTable}
use Rattle.fg_flows.specs.Plan.{PlanFits}
use Rattle.fg_flows.specs.Selection.{SelectionFits}
use Rattle.fg_cli.specs.declared.Order.{Order}
use Rattle.fg_cli.specs.declared.Order.TheVariants as order
use Rattle.fg_cli.specs.declared.WordFault.{WordFault}
use Rattle.fg_cli.specs.declared.WordFault.TheVariants as fault
use Rattle.fg_cli.specs.declared.ReadWords.{ReadWords}
use Rattle.fg_cli.specs.declared.ReadWords.TheVariants as answer
use Rattle.fg_cli.specs.declared.grammar.Command.{Command}
use Rattle.fg_cli.specs.declared.grammar.Command.TheVariants as command
use Rattle.fg_cli.specs.declared.grammar.Key.TheVariants as key
use Rattle.fg_cli.specs.declared.settings.Setting.{Setting}
use Rattle.fg_cli.specs.Grammar.{Knows}
use Rattle.fg_cli.specs.Lines.{CanBegin, IsLine, IsPlace, missing_of, number_of, values_of}

-- The depth is less than the window.
abbrev pub DepthIsBelow : List Setting → Type 0
DepthIsBelow settings = number_of key.Depth settings < number_of key.Window settings

-- The number of the word that sets the depth, where the command is word 0.
abbrev pub IsDepthWord : List Setting → ℕ → Type 0
IsDepthWord settings i = (j : ℕ) × (i ≡ j + 1) × IsPlace key.Depth settings j

-- What is read from settings that all may stand: that nothing is missing, and the depth is not below the
-- window.
pub record AreWhole (command : Command) (settings : List Setting) : Type 0 where
  pub whole : missing_of command settings ≡ None
  pub deep : ¬ DepthIsBelow settings

-- A repair as it is set, of these flows and so many bytes. Without a word for hold its number is 0, which sets
-- no limit. A sample has no words for window, depth and hold, so it has the defaults, and so has `prove` for workers.
pub record IsPlan (settings : List Setting) (ports : List ℕ) (bytes : ℕ) (plan : Plan) : Type 0 where
  pub flows : plan.table ≡ ports
  pub table : IsTable plan.table
  pub window : plan.window ≡ number_of key.Window settings
  pub depth : plan.depth ≡ number_of key.Depth settings
  pub hold : plan.hold ≡ number_of key.Hold settings
  pub workers : plan.workers ≡ number_of key.Workers settings
  pub max : plan.max ≡ bytes

-- An encoding as it is set.
pub record AreSettings (settings : List Setting) (s : Settings) : Type 0 where
  pub columns : s.layout.l ≡ number_of key.Columns settings
  pub rows : s.layout.d ≡ number_of key.Rows settings
  pub both : s.layout.rows ≡ nat_eq (number_of key.Fec settings) 1
  pub staggered : s.layout.staggered ≡ nat_eq (number_of key.Layout settings) 1
  pub packets : s.packets ≡ number_of key.Packets settings
  pub rate : s.rate ≡ number_of key.Rate settings
  pub port : s.port ≡ number_of key.Port settings
  pub seq : s.seq ≡ number_of key.Seq settings
  pub ssrc : s.ssrc ≡ number_of key.Ssrc settings
  pub stamp : s.stamp ≡ number_of key.Stamp settings

-- The losses that are set: each number, and each multiple of another where that isn't 0.
pub record AreLosses (settings : List Setting) (losses : Losses) : Type 0 where
  pub drops : losses.drops ≡ values_of key.Drop settings
  pub every : losses.every ≡ number_of key.Every settings

-- What is picked, as it is set.
pub record IsSelection (settings : List Setting) (selection : Selection) : Type 0 where
  pub flows : selection.flows ≡ values_of key.PickedFlow settings
  pub ports : selection.ports ≡ values_of key.PickedPort settings
  pub sources : selection.sources ≡ values_of key.PickedSource settings
  pub without : selection.without ≡ values_of key.Without settings
  pub from : selection.from ≡ number_of key.From settings
  pub until : selection.until ≡ slice_get (values_of key.Until settings) 0

-- The order of a command with these settings. A drill repairs the one flow that it encodes, and a sample one
-- on port 5000; the trace inside them has at most 2^42 bytes.
abbrev pub IsOrder : Command → List Setting → Order → Type 0
IsOrder command.Repair settings (order.Repair plan) =
    IsPlan settings (values_of key.Flow settings) (number_of key.Max settings) plan
IsOrder command.Encode settings (order.Encode s max) =
    AreSettings settings s × (max ≡ number_of key.Max settings)
IsOrder command.Drill settings (order.Drill s plan losses max) =
    AreSettings settings s × IsPlan settings (s.port ∷ []) (2 ^ 42) plan × AreLosses settings losses
    × (max ≡ number_of key.Max settings)
IsOrder command.Inspect settings (order.Inspect table max) =
    (table ≡ values_of key.Flow settings) × IsTable table × (max ≡ number_of key.Max settings)
IsOrder command.Sample settings (order.Sample seed datagrams loss plan) =
    (seed ≡ number_of key.Seed settings) × (datagrams ≡ number_of key.Datagrams settings)
    × (loss ≡ number_of key.Loss settings) × IsPlan settings (5000 ∷ []) (2 ^ 42) plan
IsOrder command.FromCapture settings (order.FromCapture max) = max ≡ number_of key.Max settings
IsOrder command.ToCapture settings (order.ToCapture max) = max ≡ number_of key.Max settings
IsOrder command.Monitor settings (order.Monitor max) = max ≡ number_of key.Max settings
IsOrder command.Prove settings (order.Prove plan) =
    IsPlan settings (values_of key.Flow settings) (number_of key.Max settings) plan
IsOrder command.Check settings (order.Check max) = max ≡ number_of key.Max settings
IsOrder command.ChooseMatrix settings (order.ChooseMatrix burst most rows) =
    (burst ≡ number_of key.Burst settings) × (most ≡ number_of key.Most settings)
    × (rows ≡ nat_eq (number_of key.Fec settings) 1)
IsOrder command.Survey settings (order.Survey max json) =
    (max ≡ number_of key.Max settings) × (json ≡ nat_eq (number_of key.Format settings) 1)
IsOrder command.Pick settings (order.Pick selection max) = IsSelection settings selection × (max ≡ number_of key.Max settings)
IsOrder _ settings _ = ⊥

-- The words have this reading.
abbrev pub IsReading : List (List ℕ) → Order → Type 0
IsReading words order =
    (command : Command) × (settings : List Setting) × IsLine words command settings
    × AreWhole command settings × IsOrder command settings order

-- The fault is the first that a command with settings that all may stand has. No command has both a layout
-- and flow words.
abbrev pub FirstOfLine : Command → List Setting → WordFault → Type 0
FirstOfLine command settings fault.NoCommand = ⊥
FirstOfLine command settings (fault.BadWord i) = ⊥
FirstOfLine command settings (fault.Missing name) = missing_of command settings ≡ Some name
FirstOfLine command settings (fault.Depth i) =
    (missing_of command settings ≡ None) × DepthIsBelow settings × IsDepthWord settings i
FirstOfLine command settings (fault.Layout f) =
    AreWhole command settings × Knows command key.Columns
    × FirstLayoutFault (number_of key.Columns settings) (number_of key.Rows settings)
    (nat_eq (number_of key.Fec settings) 1) f
FirstOfLine command settings (fault.Flows f) =
    AreWhole command settings × Knows command key.Flow × FirstFlowFault (values_of key.Flow settings) f

-- The fault's rule is the first that the words break: there is a word; a line can begin with the first i
-- words, and so with each word more; and then the rules of a whole line.
abbrev pub FirstFault : List (List ℕ) → WordFault → Type 0
FirstFault words fault.NoCommand = words ≡ []
FirstFault words (fault.BadWord i) =
    (i < length words) × CanBegin (take i words) × (¬ CanBegin (take (i + 1) words))
FirstFault words fault =
    (command : Command) × (settings : List Setting) × IsLine words command settings
    × FirstOfLine command settings fault

-- Why words have no order. Want of memory has no cause.
abbrev pub IsFault : List (List ℕ) → ReadWords → Type 0
IsFault words answer.Memory = Unit {0}
IsFault words (answer.Words fault) = FirstFault words fault

-- The most bytes of an input.
abbrev pub MaxFits : ℕ → Type 0
MaxFits max = (8 ≤ max) × (max ≤ 1099511627776)

-- The plan of a drill or a sample: it repairs one flow, and the trace inside has at most 2^42 bytes.
pub record IsInner (port : ℕ) (plan : Plan) : Type 0 where
  pub fits : PlanFits plan
  pub flow : plan.table ≡ port ∷ []
  pub max : plan.max ≡ 2 ^ 42

-- An order with all its numbers within the table's ranges.
abbrev pub OrderFits : Order → Type 0
OrderFits (order.Repair plan) = PlanFits plan × MaxFits plan.max
OrderFits (order.Encode s max) = SettingsFit s × MaxFits max
OrderFits (order.Drill s plan losses max) = SettingsFit s × IsInner s.port plan × LossesFit losses × MaxFits max
OrderFits (order.Inspect table max) = IsTable table × MaxFits max
OrderFits (order.Sample seed datagrams loss plan) =
    (1 ≤ datagrams) × (datagrams ≤ 20000) × (loss ≤ 20) × IsInner 5000 plan
OrderFits (order.FromCapture max) = MaxFits max
OrderFits (order.ToCapture max) = MaxFits max
OrderFits (order.Monitor max) = MaxFits max
OrderFits (order.Prove plan) = PlanFits plan × MaxFits plan.max × (length plan.table ≡ 1)
OrderFits (order.Check max) = MaxFits max
OrderFits (order.ChooseMatrix burst most rows) = (1 ≤ burst) × (burst ≤ 20) × (1 ≤ most) × (most ≤ 100)
OrderFits (order.Survey max json) = MaxFits max
OrderFits (order.Pick selection max) = SelectionFits selection × MaxFits max
