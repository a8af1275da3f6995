-- What the words of the command line spell: a command and its settings.
use Rattle.std.specs.Prelude.{◌≡◌, ◌≤◌, ◌∷◌, ◌++◌, [], ℕ, List, Option, Some, None, ◌⊎◌, codes, filter, map, length, slice_get, unwrap_or, nat_eq, if◌then◌else◌}
use Rattle.std.specs.List.{All, filter_map}
use Rattle.fg_cli.specs.declared.Name.{Name}
use Rattle.fg_cli.specs.declared.grammar.Absent.{Absent}
use Rattle.fg_cli.specs.declared.grammar.Absent.TheVariants.{Needed, Default, Nothing}
use Rattle.fg_cli.specs.declared.grammar.Command.{Command}
use Rattle.fg_cli.specs.declared.grammar.Key.{Key}
use Rattle.fg_cli.specs.declared.settings.Setting.{Setting}
use Rattle.fg_cli.specs.Grammar.{row, value_text, Allows, Knows, keys_of, command_text, most_of, same_key}

-- The word of a setting: its name, an equals sign and its value.
abbrev pub word_of : Key → ℕ → List ℕ
word_of key n = (row key).name ++ codes "=" ++ value_text (row key).range n

abbrev pub setting_text : Setting → List ℕ
setting_text setting = word_of setting.key setting.value

-- The values that a name has been given, in order.
abbrev pub values_of : Key → List Setting → List ℕ
values_of key settings = map (λ setting. setting.value) (filter (λ setting. same_key key setting.key) settings)

-- The setting at place j is one of the name.
abbrev pub IsPlace : Key → List Setting → ℕ → Type 0
IsPlace key settings j =
    (setting : Setting) × (slice_get settings j ≡ Some setting) × (setting.key ≡ key)

-- A setting that may stand after the command.
abbrev pub IsKnown : Command → Setting → Type 0
IsKnown command setting = Knows command setting.key × Allows (row setting.key).range setting.value

abbrev pub AtMost : Option ℕ → ℕ → Type 0
AtMost None n = Unit {0}
AtMost (Some most) n = n ≤ most

-- The words are the command and these settings. Each may stand after it, and no name stands more often than
-- it may.
pub record IsLine (words : List (List ℕ)) (command : Command) (settings : List Setting) : Type 0 where
  pub spelled : words ≡ command_text command ∷ map setting_text settings
  pub known : All (IsKnown command) settings
  pub limited : (key : Key) → AtMost (most_of command key) (length (values_of key settings))

-- Words with which a command line can begin: none, or a command and settings.
abbrev pub CanBegin : List (List ℕ) → Type 0
CanBegin words = (words ≡ []) ⊎ ((command : Command) × (settings : List Setting) × IsLine words command settings)

-- What stands for a name that isn't there, and 0 where nothing does.
abbrev pub default_of : Absent → ℕ
default_of (Needed name) = 0
default_of (Default n) = n
default_of Nothing = 0

-- The value that a name has been given first, or its default.
abbrev pub number_of : Key → List Setting → ℕ
number_of key settings = unwrap_or (slice_get (values_of key settings) 0) (default_of (row key).absent)

-- The name, where it must be there and isn't.
abbrev pub needed_name : Absent → Option Name
needed_name (Needed name) = Some name
needed_name (Default n) = None
needed_name Nothing = None

abbrev pub missing_name : List Setting → Key → Option Name
missing_name settings key =
    if nat_eq (length (values_of key settings)) 0 then needed_name (row key).absent else None

-- The first of the command's names that must be there and isn't.
abbrev pub missing_of : Command → List Setting → Option Name
missing_of command settings = slice_get (filter_map (missing_name settings) (keys_of command)) 0
