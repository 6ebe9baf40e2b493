-- Lines: a list of moves, written down so that it can be made again.
--
-- Read first: Sizes; Moves of gos_model, Heads of gos_swaps. A line says where something happens, and what happens
-- follows: an unfolding, a computation step, the next label, or the next label by the root's rule. A new variable or array
-- takes the least location that the store doesn't have.
use Rattle.std.specs.Prelude.{◌≡◌, ◌≢◌, ◌⊎◌, ◌<◌, ◌≤◌, ◌+◌, ℕ, List, [], ◌∷◌, ◌++◌, length, None}
use Rattle.gos_model.specs.Terms.{Term, New, NewArray}
use Rattle.gos_model.specs.Stores.{variable_at, array_at, Store, entry_at}
use Rattle.gos_model.specs.Reach.{Rewrites}
use Rattle.gos_model.specs.Paths.{ReachedAt}
use Rattle.gos_swaps.specs.doings.Heads.{HeadAt}
use Rattle.gos_witness.specs.Sizes.{size_of}
use Rattle.gos_model.specs.Steps.{Computes}
use Rattle.gos_model.specs.Labels.{Label as Shown, given, Emits, Takes}
use Rattle.gos_model.specs.Moves.{Program, Config, Idle, Running, Answers}
use Rattle.gos_witness.specs.declared.moves.Line.{Line}
use Rattle.gos_witness.specs.declared.moves.Line.TheVariants.{Unfold, Step, Label, Root}

-- where the lines so far lead, and the labels that are left
pub record Stand : Type 0 where
  pub config : Config
  pub left : List Shown

abbrev pub start : List Shown → Stand
start labels = record { config = Idle; left = labels }

-- the least location that the store doesn't have
pub record IsLeastNew (s : Store) (l : ℕ) : Type 0 where
  pub new : entry_at s l ≡ None
  pub least : (k : ℕ) → k < l → entry_at s k ≢ None

-- a new variable takes that one, and so does a new array
abbrev pub TakesLeast : Store → Store → Term → Type 0
TakesLeast s s' (New w m) = (l : ℕ) × IsLeastNew s l × (s' ≡ variable_at l w 0 ∷ s)
TakesLeast s s' (NewArray n w m) = (l : ℕ) × IsLeastNew s l × (s' ≡ array_at l w n ∷ s)
TakesLeast s s' m = Unit {0}

-- what a line makes of a running term
abbrev pub MakesOf : Program → Line → Term → Store → List Shown → Stand → Type 0
MakesOf p (Unfold path) m s left b = (t : Term) × HeadAt path Rewrites m t × (b ≡ record { config = Running t s; left = left })
MakesOf p (Step path) m s left b =
    (t : Term) × (s' : Store) × ReachedAt path (λ x y. Computes s s' x y × TakesLeast s s' x) m t
    × (b ≡ record { config = Running t s'; left = left })
MakesOf p (Label path) m s [] b = ⊥
MakesOf p (Label path) m s (o ∷ left) b =
    (t : Term) × ReachedAt path (λ x y. Emits p.imports o x y ⊎ Takes p.imports o x y) m t
    × (b ≡ record { config = Running t s; left = left })
MakesOf p Root m s [] b = ⊥
MakesOf p Root m s (o ∷ left) b = Answers o m × (b ≡ record { config = Idle; left = left })

-- and of Idle
abbrev pub MakesOfIdle : Program → Line → List Shown → Stand → Type 0
MakesOfIdle p Root (o ∷ left) b = (o ≡ given 0 0) × (b ≡ record { config = Running p.body []; left = left })
MakesOfIdle p line left b = ⊥

-- the line leads from a to b
abbrev pub MakesFrom : Program → Line → Config → List Shown → Stand → Type 0
MakesFrom p line Idle left b = MakesOfIdle p line left b
MakesFrom p line (Running m s) left b = MakesOf p line m s left b

abbrev pub Makes : Program → Line → Stand → Stand → Type 0
Makes p line a b = MakesFrom p line a.config a.left b

abbrev pub CantMake : Program → Line → Stand → Type 0
CantMake p line a = (b : Stand) → Makes p line a b → ⊥

-- no term has more nodes
abbrev pub limit : ℕ
limit = 1000000

abbrev pub IsSmall : Stand → Type 0
IsSmall a = size_of a.config ≤ limit

-- the lines lead from a to b, and no term on the way is too large
abbrev pub Lead : Program → List Line → Stand → Stand → Type 0
Lead p [] a b = a ≡ b
Lead p (line ∷ lines) a b = (c : Stand) × Makes p line a c × IsSmall c × Lead p lines c b

-- an unfolding that nothing follows is no move
abbrev pub IsIdle : Line → List Line → Type 0
IsIdle (Unfold path) [] = Unit {0}
IsIdle line lines = ⊥

-- the line after these is the first that can't be made, or the last and an unfolding
pub record IsWrong (p : Program) (labels : List Shown) (lines : List Line) (n : ℕ) : Type 0 where
  pub before : List Line
  pub line : Line
  pub after : List Line
  pub are : lines ≡ before ++ line ∷ after
  pub place : n ≡ length before
  pub stand : Stand
  pub lead : Lead p before (start labels) stand
  pub wrong : CantMake p line stand ⊎ IsIdle line after

-- the line after these is the first that leads to a term that is too large; it isn't wrong
pub record IsTooLarge (p : Program) (labels : List Shown) (lines : List Line) (nodes : ℕ) : Type 0 where
  pub before : List Line
  pub line : Line
  pub after : List Line
  pub are : lines ≡ before ++ line ∷ after
  pub stand : Stand
  pub lead : Lead p before (start labels) stand
  pub next : Stand
  pub makes : Makes p line stand next
  pub not_idle : IsIdle line after → ⊥
  pub large : limit < size_of next.config
  pub has : nodes ≡ size_of next.config

-- every line can be made
abbrev pub EndsIdly : List Line → Type 0
EndsIdly lines = (before : List Line) × (line : Line) × (lines ≡ before ++ line ∷ []) × IsIdle line []

-- all lines lead on, and these labels are left
pub record IsLeft (p : Program) (labels : List Shown) (lines : List Line) (matched : ℕ) : Type 0 where
  pub stand : Stand
  pub lead : Lead p lines (start labels) stand
  pub whole : EndsIdly lines → ⊥
  pub some : stand.left ≢ []
  pub used : matched + length stand.left ≡ length labels

-- all lines lead on, and use all labels
pub record Explains (p : Program) (labels : List Shown) (lines : List Line) : Type 0 where
  pub config : Config
  pub lead : Lead p lines (start labels) (record { config = config; left = [] })
  pub whole : EndsIdly lines → ⊥
