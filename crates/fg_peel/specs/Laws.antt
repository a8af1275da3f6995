-- The laws of closure, solutions and peelings: by them "the repaired stream" means one thing.
use Rattle.std.specs.Prelude.{◌≡◌, ◌⊎◌, ◌↔◌, ◌++◌, ◌<◌, ◌≤◌, ℕ, List, Bool, ◌&&◌, nat_le, Option, Some, None, IsSome, IsTrue, is_none, if◌then◌else◌}
use Rattle.std.specs.List.{Contains, filter}
use Rattle.std.specs.Option.{option_or}
use Rattle.fg_words.specs.declared.Word.{Word}
use Rattle.fg_peel.specs.Equation.{Equation, AreAdmissible, AllComeOut, AreMedia, Keeps, Agree, IsSettled, slots}
use Rattle.fg_peel.specs.Closure.{InClosure, IsClosed}
use Rattle.fg_peel.specs.Solution.{IsSolution, FindsMedia}
use Rattle.fg_peel.specs.Peeling.{Step, IsPeeling, IsMaximal, IsSound, end_of}

-- The closure is closed.
abbrev pub ClosureIsClosed : Type 0
ClosureIsClosed =
    (known : ℕ → Option Word) (equations : List Equation) → IsClosed known equations (InClosure known equations)

-- The closure is contained in every closed set that has a test.
abbrev pub ClosureIsLeast : Type 0
ClosureIsLeast =
    (known : ℕ → Option Word) (equations : List Equation) (test : ℕ → Bool)
    → IsClosed known equations (λ position. IsTrue (test position))
    → (position : ℕ) → InClosure known equations position → IsTrue (test position)

-- The closure itself has a test. So it is the least of the closed sets that have one.
abbrev pub ClosureHasTest : Type 0
ClosureHasTest =
    (known : ℕ → Option Word) (equations : List Equation)
    → (test : ℕ → Bool) × ((position : ℕ) → IsTrue (test position) ↔ InClosure known equations position)

-- With more known positions and more equations the closure loses nothing. The order of the equations is of no account.
abbrev pub ClosureGrows : Type 0
ClosureGrows =
    (less more : ℕ → Option Word) (few many : List Equation)
    → ((position : ℕ) → IsSome (less position) → IsSome (more position))
    → ((equation : Equation) → Contains few equation → Contains many equation)
    → (position : ℕ) → InClosure less few position → InClosure more many position

-- Once the closure's positions are known, no more follow.
abbrev pub ClosureIsFinal : Type 0
ClosureIsFinal =
    (known more : ℕ → Option Word) (equations : List Equation)
    → ((position : ℕ) → IsSome (more position) → InClosure known equations position)
    → (position : ℕ) → InClosure more equations position → InClosure known equations position

-- A peeling never leaves the closure.
abbrev pub PeelingsStayInClosure : Type 0
PeelingsStayInClosure =
    (known : ℕ → Option Word) (equations : List Equation) (steps : List Step) → IsPeeling known equations steps
    → (position : ℕ) → IsSome (end_of known steps position) → InClosure known equations position

-- The end of every maximal peeling has exactly the positions of the closure.
abbrev pub MaximalPeelingsEndAtClosure : Type 0
MaximalPeelingsEndAtClosure =
    (known : ℕ → Option Word) (equations : List Equation) (steps : List Step) → IsMaximal known equations steps
    → (position : ℕ) → IsSome (end_of known steps position) ↔ InClosure known equations position

-- There is always a maximal peeling.
abbrev pub MaximalPeelingExists : Type 0
MaximalPeelingExists =
    (known : ℕ → Option Word) (equations : List Equation) → (steps : List Step) × IsMaximal known equations steps

-- Every peeling can be continued to a maximal one.
abbrev pub PeelingsContinue : Type 0
PeelingsContinue =
    (known : ℕ → Option Word) (equations : List Equation) (steps : List Step) → IsPeeling known equations steps
    → (more : List Step) × IsMaximal known equations (steps ++ more)

-- A peeling keeps the known words.
abbrev pub PeelingsKeepWords : Type 0
PeelingsKeepWords =
    (known : ℕ → Option Word) (equations : List Equation) (steps : List Step) → IsPeeling known equations steps
    → Keeps known (end_of known steps)

-- A peeling, and then one of what it leaves, are a peeling, with the same end.
abbrev pub PeelingsAppend : Type 0
PeelingsAppend =
    (known : ℕ → Option Word) (equations : List Equation) (one other : List Step) → IsPeeling known equations one
    → IsPeeling (end_of known one) equations other
    → IsPeeling known equations (one ++ other) × (end_of known (one ++ other) ≡ end_of (end_of known one) other)

-- A maximal peeling is sound exactly where what it found is media and the equations come out.
abbrev pub MaximalPeelingsAreTested : Type 0
MaximalPeelingsAreTested =
    (known : ℕ → Option Word) (equations : List Equation) (steps : List Step) → IsMaximal known equations steps
    → IsSound known equations steps
    ↔ (FindsMedia known (end_of known steps) × AllComeOut (end_of known steps) equations)

-- Uniqueness: two solutions are equal.
abbrev pub Uniqueness : Type 0
Uniqueness =
    (known : ℕ → Option Word) (equations : List Equation) → AreAdmissible known equations
    → (one other : ℕ → Option Word) → IsSolution known equations one → IsSolution known equations other
    → one ≡ other

-- Confluence: if one maximal peeling is sound, then all are, and all have the same end.
abbrev pub SoundPeelingsAgree : Type 0
SoundPeelingsAgree =
    (known : ℕ → Option Word) (equations : List Equation) → AreAdmissible known equations
    → (one other : List Step) → IsMaximal known equations one → IsSound known equations one
    → IsMaximal known equations other
    → IsSound known equations other × (end_of known one ≡ end_of known other)

-- Confluence: if a solution exists, then some maximal peeling is sound.
abbrev pub SolutionsAreReached : Type 0
SolutionsAreReached =
    (known : ℕ → Option Word) (equations : List Equation) → AreAdmissible known equations
    → (words : ℕ → Option Word) → IsSolution known equations words
    → (steps : List Step) × IsMaximal known equations steps × IsSound known equations steps

-- Every maximal peeling ends at the solution, where there is one.
abbrev pub MaximalPeelingsEndAtSolution : Type 0
MaximalPeelingsEndAtSolution =
    (known : ℕ → Option Word) (equations : List Equation) → AreAdmissible known equations
    → (words : ℕ → Option Word) → IsSolution known equations words
    → (steps : List Step) → IsMaximal known equations steps → end_of known steps ≡ words

-- So it has every word of every peeling.
abbrev pub SolutionsKeepPeelings : Type 0
SolutionsKeepPeelings =
    (known : ℕ → Option Word) (equations : List Equation) → AreAdmissible known equations
    → (words : ℕ → Option Word) → IsSolution known equations words
    → (steps : List Step) → IsPeeling known equations steps → Keeps (end_of known steps) words

-- So a maximal peeling is sound exactly where a solution exists.
abbrev pub SoundWhereSolvable : Type 0
SoundWhereSolvable =
    (known : ℕ → Option Word) (equations : List Equation) → AreAdmissible known equations
    → (steps : List Step) → IsMaximal known equations steps
    → IsSound known equations steps ↔ ((words : ℕ → Option Word) × IsSolution known equations words)

-- The longer list has the shorter one's equations, and beside them settled ones alone.
pub record AddsSettled (known : ℕ → Option Word) (few many : List Equation) : Type 0 where
  pub listed : (equation : Equation) → Contains few equation → Contains many equation
  pub settled : (equation : Equation) → Contains many equation → Contains few equation ⊎ IsSettled known equation

-- Settled equations add nothing to the closure.
abbrev pub SettledKeepClosure : Type 0
SettledKeepClosure =
    (known : ℕ → Option Word) (few many : List Equation) → AddsSettled known few many
    → (position : ℕ) → InClosure known few position ↔ InClosure known many position

-- Nor do they change the solutions. So the order of the equations is of no account, and one may stand there twice.
abbrev pub SettledKeepSolutions : Type 0
SettledKeepSolutions =
    (known : ℕ → Option Word) (few many : List Equation) → AddsSettled known few many
    → (words : ℕ → Option Word) → IsSolution known few words ↔ IsSolution known many words

-- What a peeling found may be taken as known: the closure is the same.
abbrev pub FoundKeepsClosure : Type 0
FoundKeepsClosure =
    (known : ℕ → Option Word) (equations : List Equation) (steps : List Step) → IsPeeling known equations steps
    → (position : ℕ) → InClosure known equations position ↔ InClosure (end_of known steps) equations position

-- And so are the solutions, where all that it found is media words.
abbrev pub FoundKeepsSolutions : Type 0
FoundKeepsSolutions =
    (known : ℕ → Option Word) (equations : List Equation) (steps : List Step) → IsPeeling known equations steps
    → AreAdmissible known equations → FindsMedia known (end_of known steps)
    → (words : ℕ → Option Word)
    → IsSolution known equations words ↔ IsSolution (end_of known steps) equations words

-- True words: media words with which every equation is settled. The known words are some of them.
pub record AreTrue (known : ℕ → Option Word) (equations : List Equation) (truth : ℕ → Option Word) : Type 0 where
  pub media : AreMedia truth
  pub known_true : Keeps known truth
  pub settled : (equation : Equation) → Contains equations equation → IsSettled truth equation
  pub some_offset : (equation : Equation) → Contains equations equation → 1 ≤ equation.offset

-- Where there are true words, a solution exists.
abbrev pub TruthIsSolvable : Type 0
TruthIsSolvable =
    (known : ℕ → Option Word) (equations : List Equation) (truth : ℕ → Option Word) → AreTrue known equations truth
    → (words : ℕ → Option Word) × IsSolution known equations words

-- And it has true words alone.
abbrev pub SolutionsAreTrue : Type 0
SolutionsAreTrue =
    (known : ℕ → Option Word) (equations : List Equation) (truth : ℕ → Option Word) → AreTrue known equations truth
    → (words : ℕ → Option Word) → IsSolution known equations words → Keeps words truth

-- A peeling stays one where more equations come.
abbrev pub PeelingsTakeEquations : Type 0
PeelingsTakeEquations =
    (known : ℕ → Option Word) (few many : List Equation) (steps : List Step)
    → ((equation : Equation) → Contains few equation → Contains many equation)
    → IsPeeling known few steps → IsPeeling known many steps

-- Where words become known that agree with a peeling's end, its steps at the other positions are a peeling. It ends at
-- the same words, beside those that are known now.
abbrev pub PeelingsTakeWords : Type 0
PeelingsTakeWords =
    (known more : ℕ → Option Word) (equations : List Equation) (steps : List Step) → IsPeeling known equations steps
    → Keeps known more → Agree more (end_of known steps)
    → let rest = filter (λ step. is_none (more step.position)) steps in
    IsPeeling more equations rest
    × ((position : ℕ) → end_of more rest position ≡ option_or (more position) (end_of known steps position))

-- The equation has a slot at or past the mark.
abbrev pub ReachesPast : ℕ → Equation → Type 0
ReachesPast mark equation = (position : ℕ) × Contains (slots equation) position × (mark ≤ position)

-- A play moved the mark: what is known after it, and which equations are kept, where a peeling had an end before it.
pub record IsPlayed
    (mark : ℕ) (known later end : ℕ → Option Word) (equations kept : List Equation) : Type 0 where
  -- At or past the mark nothing has changed.
  pub ahead : (position : ℕ) → mark ≤ position → later position ≡ known position
  -- Before it, what is known agrees with the end.
  pub behind :
      (position : ℕ) (one other : Word) → position < mark → later position ≡ Some one → end position ≡ Some other
      → one ≡ other
  -- Of an equation that reaches past the mark, no slot before it is forgotten.
  pub remembered :
      (equation : Equation) → Contains equations equation → ReachesPast mark equation
      → (position : ℕ) → Contains (slots equation) position → position < mark
      → IsSome (end position) → IsSome (later position)
  -- It is kept if all its slots before the mark are known.
  pub stays :
      (equation : Equation) → Contains equations equation → ReachesPast mark equation
      → ((position : ℕ) → Contains (slots equation) position → position < mark → IsSome (later position))
      → Contains kept equation

-- A peeling outlives a play: its steps at or past the mark are a peeling, and find the same words there.
abbrev pub PeelingsOutlivePlays : Type 0
PeelingsOutlivePlays =
    (mark : ℕ) (known later : ℕ → Option Word) (equations kept : List Equation) (steps : List Step)
    → IsPeeling known equations steps → IsPlayed mark known later (end_of known steps) equations kept
    → let rest = filter (λ step. nat_le mark step.position) steps in
    IsPeeling later kept rest
    × ((position : ℕ) → mark ≤ position → end_of later rest position ≡ end_of known steps position)
    × ((position : ℕ) → position < mark → end_of later rest position ≡ later position)

-- Some positions stay, and what the other ones had may be forgotten; words become known; equations come and go. A
-- position that stays keeps its known word. What is known now agrees with the end of a peeling. A step at a position that
-- stays and isn't known now has its equation still, each slot of which stays or is known now.
pub record CarriesOver
    (stays : ℕ → Bool) (known more end : ℕ → Option Word) (equations : List Equation) (steps : List Step) : Type 0 where
  pub keeps :
      (position : ℕ) (word : Word) → IsTrue (stays position) → known position ≡ Some word → more position ≡ Some word
  pub agrees : Agree more end
  pub listed :
      (step : Step) → Contains steps step → IsTrue (stays step.position) → more step.position ≡ None
      → Contains equations step.equation
  pub slots_known :
      (step : Step) → Contains steps step → IsTrue (stays step.position) → more step.position ≡ None
      → (slot : ℕ) → Contains (slots step.equation) slot → IsTrue (stays slot) ⊎ IsSome (more slot)

-- Then these steps are a peeling. It ends at the same words where positions stay, beside those that are known now. The
-- three laws before this are cases of it.
abbrev pub PeelingsCarryOver : Type 0
PeelingsCarryOver =
    (known more : ℕ → Option Word) (equations others : List Equation) (stays : ℕ → Bool) (steps : List Step)
    → IsPeeling known equations steps → CarriesOver stays known more (end_of known steps) others steps
    → let rest = filter (λ step. stays step.position && is_none (more step.position)) steps in
    IsPeeling more others rest
    × ((position : ℕ) → end_of more rest position
    ≡ option_or (more position) (if stays position then end_of known steps position else None))

-- Laws that go together

-- Peelings fill the closure.
pub record PeelingsFillTheClosure : Type 0 where
  pub within : PeelingsStayInClosure
  pub filled : MaximalPeelingsEndAtClosure
  pub exists : MaximalPeelingExists
  pub continued : PeelingsContinue
  pub keeps : PeelingsKeepWords
  pub appended : PeelingsAppend
