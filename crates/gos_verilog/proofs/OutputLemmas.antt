-- The assignments of outputs, one by one, with the cells of the inputs that were noted.
use Rattle.std.proofs.Common.{◌≡◌, ℕ, zero, suc, ◌+◌, Bool, true, false, if◌then◌else◌, List, [], ◌∷◌, ◌++◌, length, map, drop, get_or, Some, refl, sym, ◌∙◌, ap, subst, arith, slice_get, append_assoc, codes}
use Rattle.std.specs.List.{AllByRecursion, flat_map}
use Rattle.gos_lex.specs.Items.{TextAt}
use Rattle.gos_netlist.specs.Writable.{IsNumber}
use Rattle.gos_verilog.specs.PortNets.{PortNet}
use Rattle.gos_verilog.specs.Lines.{cell_net, assignment, output_assignment}
use Rattle.gos_verilog.specs.inner.Stages.{Rest, declared_net}
use Rattle.gos_verilog.specs.inner.Noted.{AreAllNoted}

-- the last line of a module
abbrev pub last_line : List ℕ
last_line = codes "endmodule\n"

-- the nets that are left
pub record OutputsLeft (known nets : List PortNet) (now : TextAt) (k : ℕ) (found : List PortNet) : Type 0 where
  pub left : List PortNet
  pub shaped : drop k nets ≡ map declared_net left
  pub numbers : AllByRecursion (λ (n : PortNet). IsNumber n.cell) left
  pub stands : Rest now (flat_map output_assignment left ++ last_line)
  pub whole : found ++ left ≡ known

abbrev pub OutputsSoFar : List ℕ → List PortNet → List ℕ → TextAt → ℕ → List PortNet → Type 0
OutputsSoFar rest nets noted now k found = (known : List PortNet) → nets ≡ map declared_net known → AllByRecursion (λ n. IsNumber n.cell) known → AreAllNoted known noted
    → rest ≡ flat_map output_assignment known ++ last_line → OutputsLeft known nets now k found

pub no_outputs_yet : (rest : List ℕ) (nets : List PortNet) (noted : List ℕ) (cursor : TextAt) → cursor.text ≡ rest → cursor.at ≡ 0 → OutputsSoFar rest nets noted cursor 0 []
no_outputs_yet rest nets noted cursor text at known is numbers are left =
    record { left = known; shaped = is; numbers = numbers; stands = (λ i. drop (at i) (text i)) ∙ left; whole = refl }

-- the next net
pub record NextOutput (known nets : List PortNet) (noted : List ℕ) (now : TextAt) (k : ℕ) (found : List PortNet) (seen : PortNet) : Type 0 where
  pub net : PortNet
  pub left : List PortNet
  pub is : seen ≡ declared_net net
  pub shaped : drop (k + 1) nets ≡ map declared_net left
  pub number : IsNumber net.cell
  pub numbers : AllByRecursion (λ (n : PortNet). IsNumber n.cell) left
  pub input : net.input ≡ true → Rest now (flat_map output_assignment left ++ last_line)
  pub output : net.input ≡ false → Rest now (assignment net.name (cell_net net.cell) ++ (flat_map output_assignment left ++ last_line))
  pub read : net.input ≡ true → get_or noted k 0 ≡ net.cell
  pub whole : found ++ net ∷ left ≡ known

get_middle : (xs : List PortNet) (x : PortNet) (ys : List PortNet) (n : ℕ) → length xs ≡ n → slice_get (xs ++ x ∷ ys) n ≡ Some x
get_middle [] x ys n is = ap (slice_get (x ∷ ys)) (sym is)
get_middle (y ∷ xs) x ys zero is = absurd (omega (arith, is))
get_middle (y ∷ xs) x ys (suc n) is = get_middle xs x ys n (omega (arith, is))

pub next_output : (known nets : List PortNet) (noted : List ℕ) (now : TextAt) (k : ℕ) (found : List PortNet) (seen : PortNet) → AreAllNoted known noted → length found ≡ k → drop k nets ≡ seen ∷ drop (k + 1) nets
    → OutputsLeft known nets now k found → NextOutput known nets noted now k found seen
next_output known nets noted now k found seen are long cut far = by far.left far.shaped far.numbers far.stands far.whole
  where
    by : (left : List PortNet) → drop k nets ≡ map declared_net left → AllByRecursion (λ (n : PortNet). IsNumber n.cell) left → Rest now (flat_map output_assignment left ++ last_line) → found ++ left ≡ known
        → NextOutput known nets noted now k found seen
    by [] shaped numbers stands whole = absurd (let none : seen ∷ drop (k + 1) nets ≡ [] = sym cut ∙ shaped in cc none)
    by (n ∷ left) shaped numbers stands whole =
        let both : seen ∷ drop (k + 1) nets ≡ declared_net n ∷ map declared_net left = sym cut ∙ shaped in
        let parts : Rest now (output_assignment n ++ (flat_map output_assignment left ++ last_line)) = stands ∙ append_assoc (output_assignment n) (flat_map output_assignment left) last_line in
        let at : slice_get known k ≡ Some n = subst (λ (ns : List PortNet). slice_get ns k ≡ Some n) whole (get_middle found n left k long) in
        record {
          net = n;
          left = left;
          is = cc both;
          shaped = cc both;
          number = numbers.0;
          numbers = numbers.1;
          input = λ is. parts ∙ ap (λ (b : Bool). (if b then [] else assignment n.name (cell_net n.cell)) ++ (flat_map output_assignment left ++ last_line)) is;
          output = λ is. parts ∙ ap (λ (b : Bool). (if b then [] else assignment n.name (cell_net n.cell)) ++ (flat_map output_assignment left ++ last_line)) is;
          read = are k n at;
          whole = whole;
        }

-- a net more is known
pub outputs_more : (known nets : List PortNet) (noted : List ℕ) (now new : TextAt) (k : ℕ) (found : List PortNet) (seen net : PortNet) (cell : ℕ) (next : NextOutput known nets noted now k found seen)
    → net ≡ record { name = seen.name; input = seen.input; width = seen.width; cell = cell } → cell ≡ next.net.cell → Rest new (flat_map output_assignment next.left ++ last_line)
    → OutputsLeft known nets new (k + 1) (found ++ net ∷ [])
outputs_more known nets noted now new k found seen net cell next is cell_is rest =
    let same : net ≡ next.net = is ∙ (λ i. record { name = (next.is i).name; input = (next.is i).input; width = (next.is i).width; cell = cell_is i }) in
    record {
      left = next.left;
      shaped = next.shaped;
      numbers = next.numbers;
      stands = rest;
      whole = append_assoc found (net ∷ []) next.left ∙ (ap (λ (n : PortNet). found ++ n ∷ next.left) same ∙ next.whole);
    }
