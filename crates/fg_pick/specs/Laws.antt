-- What shows that the definition of what is picked is right.
use Rattle.std.specs.Prelude.{◌≡◌, ◌⊎◌, ◌++◌, List}
use Rattle.fg_flows.specs.declared.selection.Selection.{Selection}
use Rattle.fg_trace.specs.Trace.{Record}
use Rattle.fg_pick.specs.Picked.{Fits, IsPicked}

-- A record fits, or it doesn't.
abbrev pub FitsIsDecided : Type 0
FitsIsDecided = (selection : Selection) (r : Record) → Fits selection r ⊎ (¬ Fits selection r)

-- Of any records some are picked, if only none.
abbrev pub PickedExist : Type 0
PickedExist = (selection : Selection) (records : List Record) → (picked : List Record) × IsPicked selection records picked

-- One list is picked at most.
abbrev pub OnePicked : Type 0
OnePicked =
    (selection : Selection) (records one other : List Record)
    → IsPicked selection records one → IsPicked selection records other → one ≡ other

-- What is picked of two lists, one after the other, is what is picked of each.
abbrev pub PickedJoin : Type 0
PickedJoin =
    (selection : Selection) (records more one other : List Record)
    → IsPicked selection records one → IsPicked selection more other
    → IsPicked selection (records ++ more) (one ++ other)
