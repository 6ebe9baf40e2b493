-- Texts of fixed form, from items: what an item is, how items stand one behind the other, and where a text breaks off.
--
-- Read first: ItemTexts of gos_lex, Items of gos_lex. Places count bytes from 0.
use Rattle.std.specs.Prelude.{◌≡◌, ℕ, zero, suc, ◌≤◌, ◌⊎◌, List, ◌++◌, length}
use Rattle.std.specs.List.{AllByRecursion, flat_map, slice_range}
use Rattle.std.specs.Fmt.{decimal}
use Rattle.gos_lex.specs.Items.{TextAt, Misses}
use Rattle.gos_lex.specs.Names.{IsNameOrWord}
use Rattle.gos_lex.specs.ItemTexts.{IsAbove, IsTextOf, ended, IsInRange}
use Rattle.gos_plan.specs.declared.fault.ObjectFault.{ObjectFault}
use Rattle.gos_plan.specs.declared.fault.ObjectFault.TheVariants as faults

-- A sort of items: its values, which of them are of the format, and which keep the limits; how a value is written; and at
-- which places a limit is exceeded in a text that is read as such an item from a place on.
pub record Item : Type 1 where
  pub Value : Type 0
  pub Is : Value → Type 0
  pub Keeps : Value → Type 0
  pub text : Value → List ℕ
  pub Over : List ℕ → ℕ → ℕ → Type 0

-- these bytes stand from one place to another
pub record Spans (source : List ℕ) (at end : ℕ) (bytes : List ℕ) : Type 0 where
  pub after : at ≤ end
  pub within : end ≤ length source
  pub is : slice_range source at end ≡ bytes

-- the bytes are an item of the format
abbrev pub IsItem : Item → List ℕ → Type 0
IsItem A = IsTextOf A.Value A.Is A.text

-- the cursor has passed this item
pub record Reads (A : Item) (old new : TextAt) (v : A.Value) : Type 0 where
  pub same : new.text ≡ old.text
  pub spans : Spans old.text old.at new.at (A.text v)
  pub is : A.Is v
  pub keeps : A.Keeps v

-- Why no item is read from a place on. `Form`: it breaks off there, and no limit is exceeded.
abbrev pub Fails : Item → List ℕ → ℕ → ObjectFault → Type 0
Fails A source at (faults.Form place) = Misses (IsItem A) source at place × ((p : ℕ) → A.Over source at p → ⊥)
Fails A source at (faults.Limit place) = A.Over source at place
Fails A source at (faults.Joint index) = ⊥
Fails A source at faults.NoMemory = Unit {0}

-- items without limits
abbrev pub plain : (V : Type 0) → (V → Type 0) → (V → List ℕ) → Item
plain V Is text = record { Value = V; Is = Is; Keeps = λ v. Unit {0}; text = text; Over = λ source at place. ⊥ }

-- these bytes
abbrev pub exactly : List ℕ → Item
exactly bytes = plain (Unit {0}) (λ v. Unit {0}) (λ v. bytes)

-- one of the words of a table
abbrev pub words : (V : Type 0) → (V → List ℕ) → Item
words V text = plain V (λ v. Unit {0}) text

-- a number of a range, and the byte that ends it
abbrev pub number_in : ℕ → ℕ → ℕ → Item
number_in low high end = plain ℕ (IsInRange low high) (λ n. ended end (decimal n))

-- a name and a space
abbrev pub any_name : Item
any_name = plain (List ℕ) IsNameOrWord (ended 32)

-- a limit is exceeded behind an item that keeps the limits
abbrev pub Behind : (A : Item) → (A.Value → List ℕ → ℕ → ℕ → Type 0) → List ℕ → ℕ → ℕ → Type 0
Behind A Over source at place =
    (v : A.Value) × (mid : ℕ) × A.Is v × A.Keeps v × Spans source at mid (A.text v) × Over v source mid place

-- an item, and another one behind it, which may depend on it
abbrev pub both : (A : Item) → (A.Value → Item) → Item
both A B =
    record {
      Value = (v : A.Value) × (B v).Value;
      Is = λ v. A.Is v.0 × (B v.0).Is v.1;
      Keeps = λ v. A.Keeps v.0 × (B v.0).Keeps v.1;
      text = λ v. A.text v.0 ++ (B v.0).text v.1;
      Over = λ source at place. A.Over source at place ⊎ Behind A (λ v. (B v).Over) source at place;
    }

-- a count up to 4,294,967,295 and a line feed; where it is above its limit, that is so at its first digit
abbrev pub count_up_to : ℕ → Item
count_up_to limit =
    record {
      Value = ℕ;
      Is = IsInRange 0 4294967295;
      Keeps = λ n. n ≤ limit;
      text = λ n. ended 10 (decimal n);
      Over = λ source at place. (place ≡ at) × IsAbove limit source at;
    }

-- so many items one behind the other
abbrev pub OverLines : Item → ℕ → List ℕ → ℕ → ℕ → Type 0
OverLines A zero source at place = ⊥
OverLines A (suc k) source at place = A.Over source at place ⊎ Behind A (λ v. OverLines A k) source at place

abbrev pub lines : Item → ℕ → Item
lines A k =
    record {
      Value = List A.Value;
      Is = λ vs. (length vs ≡ k) × AllByRecursion A.Is vs;
      Keeps = AllByRecursion A.Keeps;
      text = flat_map A.text;
      Over = OverLines A k;
    }

-- a count, and so many items
abbrev pub section : ℕ → Item → Item
section limit A =
    record {
      Value = List A.Value;
      Is = λ vs. (length vs ≤ 4294967295) × AllByRecursion A.Is vs;
      Keeps = λ vs. (length vs ≤ limit) × AllByRecursion A.Keeps vs;
      text = λ vs. ended 10 (decimal (length vs)) ++ flat_map A.text vs;
      Over = (both (count_up_to limit) (lines A)).Over;
    }
