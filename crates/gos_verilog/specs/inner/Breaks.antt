-- What may be left of a text from a place on, and where what is left breaks off.
--
-- Read first: Stages; Items and NetItems below. Between the reader and its lemmas.
use Rattle.std.specs.Prelude.{◌≡◌, ◌⊎◌, ℕ, ◌+◌, ◌<◌, List, [], ◌∷◌, ◌++◌, length, drop}
use Rattle.gos_lex.specs.Items.{TextAt, Begins, Misses}
use Rattle.gos_lex.specs.ItemTexts.{Passed}
use Rattle.gos_verilog.specs.declared.fault.VFault.{VFault}
use Rattle.gos_verilog.specs.declared.fault.VFault.TheVariants as faults

-- which bytes may be left
abbrev pub Left : Type 1
Left = List ℕ → Type 0

-- an item, and behind it what may follow its value
abbrev pub Item : (V : Type 0) → (V → Type 0) → (V → List ℕ) → (V → Left) → Left
Item V Is text Rest bytes = (v : V) × (rest : List ℕ) × Is v × Rest v rest × (bytes ≡ text v ++ rest)

-- one or the other
abbrev pub Either : Left → Left → Left
Either L M bytes = L bytes ⊎ M bytes

-- one of the first k
abbrev pub Among : (ℕ → Left) → ℕ → Left
Among P k bytes = (j : ℕ) × (j < k) × P j bytes

-- none of the first k stands at a place, and what begins like one of them breaks off at the furthest place
pub record AllMiss (P : ℕ → Left) (text : List ℕ) (at k furthest : ℕ) : Type 0 where
  pub none : k ≡ 0 → furthest ≡ at
  pub some : 0 < k → Misses (Among P k) text at furthest

-- The bytes are not what may be left, and what begins like it breaks off after n of them: it begins with these n, and
-- not with these and the one behind them.
pub record BreaksAfter (L : Left) (bytes : List ℕ) (n : ℕ) : Type 0 where
  pub good : List ℕ
  pub bad : List ℕ
  pub is : bytes ≡ good ++ bad
  pub count : length good ≡ n
  pub begins : Begins L good
  pub stops : (b : ℕ) (more : List ℕ) → bad ≡ b ∷ more → Begins L (good ++ b ∷ []) → ⊥
  pub none : L bytes → ⊥

-- what is left from a cursor on breaks off at a place
abbrev pub BreaksFrom : Left → TextAt → ℕ → Type 0
BreaksFrom L cursor place = (n : ℕ) × (place ≡ cursor.at + n) × BreaksAfter L (drop cursor.at cursor.text) n

-- so does the fault say
abbrev pub FaultFrom : Left → TextAt → VFault → Type 0
FaultFrom L cursor (faults.Form place) = BreaksFrom L cursor place
FaultFrom L cursor faults.NoMemory = Unit {0}

-- the word stands in the text between these places
abbrev pub PassedIn : List ℕ → ℕ → ℕ → List ℕ → Type 0
PassedIn text from to = Passed (record { text = text; at = from }) (record { text = text; at = to })

-- behind the word may be left what M says, where L says what may be left before it
pub record Leads (L M : Left) (word : List ℕ) : Type 0 where
  pub on : (x : List ℕ) → M x → L (word ++ x)
  pub back : (x : List ℕ) → L (word ++ x) → M x

-- the cursor has passed such a word
pub record LeadsOn (L M : Left) (old new : TextAt) : Type 0 where
  pub word : List ℕ
  pub passed : Passed old new word
  pub leads : Leads L M word
