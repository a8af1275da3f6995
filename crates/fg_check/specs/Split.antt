-- Lines of bytes, and which of them can stand in a list of cases: this project's own.
use Rattle.std.specs.Prelude.{◌≡◌, ℕ, List, [], ◌∷◌, ◌++◌, map, All}
use Rattle.std.specs.List.{Contains, flat_map}
use Rattle.fg_proof.specs.declared.case.Case.{Case}
use Rattle.fg_proof.specs.Text.{End, IsWritable, line_text, lines_of}

-- Lines, each ended by a line feed.
abbrev pub ended : List (List ℕ) → List ℕ
ended lines = flat_map (λ line. line ++ 10 ∷ []) lines

-- The bytes are these lines, each ended by a line feed, and then the rest. There is no other line feed.
pub record IsSplit (bytes : List ℕ) (lines : List (List ℕ)) (rest : List ℕ) : Type 0 where
  pub is : bytes ≡ ended lines ++ rest
  pub lines_lack : All (λ line. ¬ Contains line 10) lines
  pub rest_lacks : ¬ Contains rest 10

-- The lines of the texts of cases, one after another.
abbrev pub texts_of : List Case → List (List ℕ)
texts_of cases = map line_text (flat_map lines_of cases)

-- The lines fit: they are the first lines of the texts of some cases.
pub record Fit (lines : List (List ℕ)) : Type 0 where
  pub cases : List Case
  pub more : List (List ℕ)
  pub writable : All IsWritable cases
  pub are : texts_of cases ≡ lines ++ more

-- The cases whose texts are whole in these lines: those of the others are none that ends a case.
pub record AreWhole (lines : List (List ℕ)) (cases : List Case) : Type 0 where
  pub writable : All IsWritable cases
  pub others : List (List ℕ)
  pub are : lines ≡ texts_of cases ++ others
  pub unended : ¬ Contains others (line_text End)
