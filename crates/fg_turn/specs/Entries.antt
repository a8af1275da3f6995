-- What callers write down about a state: this project's own form.
use Rattle.std.specs.Prelude.{ℕ, List, take, drop}

-- one of the owner's calls, or one thing that a seat was told, as a finite list of numbers
abbrev pub Entry : Type 0
Entry = List ℕ

-- of the list that ends an owner's turn: its entry, alone in a list, and what is told
abbrev pub entry_of : List Entry → List Entry
entry_of named = take 1 named

abbrev pub told_of : List Entry → List Entry
told_of named = drop 1 named
