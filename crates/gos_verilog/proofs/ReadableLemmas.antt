-- Inputs that are cells of their own, net by net.
use Rattle.std.proofs.Common.{◌≡◌, ◌⊎◌, inl, inr, ℕ, zero, suc, ◌+◌, ◌<◌, ◌≤◌, Bool, true, false, List, [], ◌∷◌, length, take, Some, refl, sym, subst, arith, slice_get}
use Rattle.std.specs.Prelude.{◌||◌}
use Rattle.std.specs.Str.{bytes_eq}
use Rattle.std.proofs.lemmas.Slice.Eq.{bytes_eq-Decides}
use Rattle.std.proofs.lemmas.Option.{slice_get_within}
use Rattle.gos_netlist.specs.Nets.{Cell, NetPort}
use Rattle.gos_netcheck.specs.Rules.{Kept}
use Rattle.gos_netcheck.specs.inner.PortSearch.{is_named}
use Rattle.gos_netcheck.proofs.RuleLemmas.{kept_more}
use Rattle.gos_verilog.specs.PortNets.{PortNet}
use Rattle.gos_verilog.specs.Readable.{IsInputCell, HasOwnCell}
use Rattle.gos_verilog.specs.inner.Inputs.{IsTaken, IsTakenInput, AreTaken, AreFed}

-- one net more takes its cell
pub one_net_more : (cells : List Cell) (nets : List PortNet) (i : ℕ) (net : PortNet) (old new : List Bool) → slice_get nets i ≡ Some net → IsInputCell cells net
    → (net.input ≡ true → IsTaken old net.cell → ⊥) → (net.input ≡ true → IsTaken new net.cell) → ((n : ℕ) → IsTaken old n → IsTaken new n)
    → ((n : ℕ) → IsTaken new n → IsTaken old n ⊎ ((net.input ≡ true) × (net.cell ≡ n)))
    → AreTaken cells nets i old → AreTaken cells nets (i + 1) new
one_net_more cells nets i net old new here right free marked kept only taken =
    record {
      inputs = kept_more (λ _ n. IsInputCell cells n) nets i net here taken.inputs right;
      once = kept_more (HasOwnCell nets) nets i net here taken.once (λ input j other below at is same. free input (subst (IsTaken old) same (taken.marks j other below at is)));
      marks = kept_more (λ _ n. n.input ≡ true → IsTaken new n.cell) nets i net here (λ k x below at input. kept x.cell (taken.marks k x below at input)) marked;
      only = λ n is. elim (only n is) [ inl before ↦ let far = taken.only n before in (far.0, omega (arith, far.1), far.2) | inr now ↦ (i, omega arith, (net, here, now.0, now.1)) ];
    }

-- where each is an input of its own, the net at place i finds its cell free
pub cell_free : (cells : List Cell) (nets : List PortNet) (i : ℕ) (net : PortNet) (taken : List Bool) → slice_get nets i ≡ Some net → Kept (HasOwnCell nets) nets → AreTaken cells nets i taken
    → net.input ≡ true → IsTaken taken net.cell → ⊥
cell_free cells nets i net taken here once are input marked =
    let far = are.only net.cell marked in once i net here input far.0 far.2.0 far.1 far.2.1 far.2.2 far.2.3

-- where each Input cell is an input, each is taken
pub all_marked : (cells : List Cell) (nets : List PortNet) (i : ℕ) (taken : List Bool) → length nets ≤ i → AreTaken cells nets i taken → AreFed nets cells → Kept (IsTakenInput taken) cells
all_marked cells nets i taken past are fed n cell at gate =
    let known = fed n cell at gate in
    let net = known.1.0 in
    subst (IsTaken taken) known.1.3 (are.marks known.0 net (omega (arith, past, slice_get_within nets known.0 net known.1.1)) known.1.1 known.1.2)

-- a name that some port before has
pub named_before : (ports : List NetPort) (k : ℕ) (b : List ℕ) → is_named (take k ports) b ≡ true → (j : ℕ) × (q : NetPort) × (j < k) × (slice_get ports j ≡ Some q) × (q.name ≡ b)
named_before ports zero b is = absurd (let no : false ≡ true = is in cc no)
named_before [] (suc k) b is = absurd (let no : false ≡ true = is in cc no)
named_before (p ∷ ports) (suc k) b is = by (bytes_eq b p.name) refl is (λ rest. named_before ports k b rest)
  where
    Found : List NetPort → ℕ → Type 0
    Found qs n = (j : ℕ) × (q : NetPort) × (j < n) × (slice_get qs j ≡ Some q) × (q.name ≡ b)

    by : (t : Bool) → bytes_eq b p.name ≡ t → (t || is_named (take k ports) b) ≡ true → (is_named (take k ports) b ≡ true → Found ports k) → Found (p ∷ ports) (suc k)
    by true same e behind = (zero, p, omega arith, refl, sym ((bytes_eq-Decides b p.name).0 same))
    by false same e behind = let rest = behind e in (suc rest.0, rest.1, omega (arith, rest.2), rest.3, rest.4)
