-- A netlist of one register is accepted, and has its Verilog text.
use Rattle.std.proofs.Common.{◌≡◌, ◌∙◌, ℕ, zero, suc, List, [], ◌∷◌, ◌++◌, Some, ap, arith, codes, length, refl, slice_get, subst, sym, take, true}
use Rattle.std.specs.Prelude.{Contains}
use Rattle.std.specs.Fmt.{digits}
use Rattle.std.proofs.lemmas.Option.{same_Some}
use Rattle.gos_outside.specs.Files.{Files, bytes_at}
use Rattle.gos_lex.specs.Lines.{Word}
use Rattle.gos_types.specs.Types.{Com}
use Rattle.gos_netlist.specs.Nets.{Netlist, Input, Reg, Cell, Give, NetPort, pins}
use Rattle.gos_netlist.specs.Cycles.{Feeds, HasCycle}
use Rattle.gos_netlist.specs.NetText.{text_of}
use Rattle.gos_netlist.specs.NetFaults.{IsOneNetlist, PrintedIsRead}
use Rattle.gos_netlist.specs.SmallNets.{bit}
use Rattle.gos_netlist.specs.Writable.{IsWritable}
use Rattle.gos_netcheck.specs.CellRules.{PinsExist, HasRightWidths, widths_of}
use Rattle.gos_netcheck.specs.PortRules.{places, FitsAt, IsRightPort}
use Rattle.gos_netcheck.specs.Accepted.{IsAccepted}
use Rattle.gos_verilog.specs.OneText.{HasOneText}
use Rattle.gos_verilog.specs.PortNets.{PortNet}
use Rattle.gos_verilog.specs.Lines.{driver}
use Rattle.gos_verilog.specs.VerilogText.{IsVerilogOf, declarations, outputs}
use Rattle.gos_flow.specs.Texts.{SaysNet}
use Rattle.gos_flow.specs.SmallRuns.{echo, echo_verilog, EchoIsWritten, LongerIsNotWritten, OtherCountIsNotTold, CausesAreApart}
use Rattle.gos_flow.proofs.LawLemmas.{one_text_of}

-- what holds at each of two places
of_cells : (P : ℕ → Cell → Type 0) → P 0 (bit Input) → P 1 (bit (Reg 0)) → (n : ℕ) (c : Cell) → slice_get echo.cells n ≡ Some c → P n c
of_cells P pa pb zero c is = subst (P 0) (same_Some (bit Input) c is) pa
of_cells P pa pb (suc zero) c is = subst (P 1) (same_Some (bit (Reg 0)) c is) pb
of_cells P pa pb (suc (suc n)) c is = absurd (cc is)

-- The input alone feeds a net, and that is the register's.
no_pin : (a : ℕ) → Contains [] a → ⊥
no_pin a (k, low, e) = omega (arith, low)

one_pin : (a : ℕ) → Contains (0 ∷ []) a → a ≡ 0
one_pin a (zero, low, e) = sym e
one_pin a (suc k, low, e) = absurd (omega (arith, low))

feeds_one : (a b : ℕ) → Feeds echo.cells a b → (a ≡ 0) × (b ≡ 1)
feeds_one a zero (c, e, at_a, at_b, free, pin) =
    let same : bit Input ≡ e = same_Some (bit Input) e at_b in
    absurd (no_pin a (subst (λ (x : Cell). Contains (pins x.gate) a) (sym same) pin))
feeds_one a (suc zero) (c, e, at_a, at_b, free, pin) =
    let same : bit (Reg 0) ≡ e = same_Some (bit (Reg 0)) e at_b in
    (one_pin a (subst (λ (x : Cell). Contains (pins x.gate) a) (sym same) pin), refl)
feeds_one a (suc (suc b)) (c, e, at_a, at_b, free, pin) = absurd (cc at_b)

acyclic : HasCycle echo.cells → ⊥
acyclic ([], ring) = ring
acyclic (a ∷ [], (apart, chain)) = let (first, second) = feeds_one a a chain in omega (arith, first, second)
acyclic (a ∷ b ∷ [], (apart, chain)) = let first = (feeds_one a b chain.0).1 in let second = (feeds_one b a chain.1).0 in omega (arith, first, second)
acyclic (a ∷ b ∷ c ∷ ns, (apart, chain)) = let first = (feeds_one a b chain.0).1 in let second = (feeds_one b c chain.1.0).0 in omega (arith, first, second)

stands : (i n : ℕ) → slice_get (0 ∷ 1 ∷ []) i ≡ Some n → FitsAt echo.cells (slice_get (places Give Com) i) n
stands zero n is = subst (FitsAt echo.cells (slice_get (places Give Com) 0)) (same_Some 0 n is) (bit Input, refl, refl, refl)
stands (suc zero) n is = subst (FitsAt echo.cells (slice_get (places Give Com) 1)) (same_Some 1 n is) (bit (Reg 0), refl, refl, (0, refl))
stands (suc (suc i)) n is = absurd (cc is)

once : (i n : ℕ) → slice_get (0 ∷ []) i ≡ Some n → Contains ([] ++ take i (0 ∷ [])) n → ⊥
once zero n is (k, low, e) = omega (arith, low)
once (suc i) n is has = cc is

right : (k : ℕ) (p : NetPort) → slice_get echo.ports k ≡ Some p → IsRightPort echo.cells echo.ports k p
right zero p is =
    subst (IsRightPort echo.cells echo.ports 0) (same_Some _ p is)
    (record { side = (refl, tt); name = λ k q low at_k same. omega (arith, low); nets = (refl, stands); inputs = once })
right (suc k) p is = absurd (cc is)

alone : (n : ℕ) (c : Cell) → slice_get echo.cells n ≡ Some c → c.gate ≡ Input → n ≡ 0
alone = of_cells (λ n c. c.gate ≡ Input → n ≡ 0) (λ e. refl) (λ e. absurd (cc e))

echo_accepted : IsAccepted echo
echo_accepted =
    record {
      nets = of_cells (λ _ c. PinsExist 2 c) tt (omega arith, tt);
      widths = of_cells (λ _ c. HasRightWidths (widths_of echo.cells) c) (omega arith, omega arith, tt) (omega arith, omega arith, refl);
      ports = record { some = omega arith; each = right; inputs = λ n (c, there, gate, missing). missing (0, omega arith, sym (alone n c there gate)) };
      acyclic = acyclic;
    }

echo_writable : IsWritable echo
echo_writable = grind arith

-- its lines
abbrev lines : List ℕ
lines = driver 0 (bit Input) (codes "main__run") ++ (driver 1 (bit (Reg 0)) [] ++ [])

run_net : PortNet
run_net = record { name = codes "main__run"; input = true; width = 1; cell = 0 }

whole : declarations echo ++ lines ++ outputs echo ≡ echo_verilog
unfolding digits
whole = refl

echo_has_text : IsVerilogOf echo echo_verilog
unfolding run_net
echo_has_text = (
  lines,
  (
    codes "main__run",
    driver 1 (bit (Reg 0)) [] ++ [],
    λ input. (0, run_net, refl, refl, refl, refl),
    ([], [], λ input. absurd (cc input), refl, refl),
    refl,
  ),
  sym whole,
)

module _ (printed : PrintedIsRead) where
  echo_is_said : (text : List ℕ) → text ≡ text_of echo → SaysNet text echo
  echo_is_said text is =
      subst (λ (t : List ℕ). SaysNet t echo) (sym is)
      (record { read = printed echo echo_writable (omega arith) (omega arith); accepted = echo_accepted })

  pub echo_is_written : EchoIsWritten
  echo_is_written files net out is =
      record {
        circuit = echo;
        text = echo_verilog;
        says = echo_is_said (bytes_at files net) is;
        accepted = echo_accepted;
        is = echo_has_text;
        wrote = refl;
        count = refl;
      }

  module _ (one_netlist : (text : List ℕ) → IsOneNetlist text) (has_text : (net : Netlist) → IsAccepted net → HasOneText net) where
    is_echo : (files : Files) (net : Word) (circuit : Netlist) → bytes_at files net ≡ text_of echo → SaysNet (bytes_at files net) circuit → circuit ≡ echo
    is_echo files net circuit is says = one_netlist (bytes_at files net) circuit echo says.read.writable echo_writable says.read.is is

    pub longer_is_not_written : LongerIsNotWritten
    longer_is_not_written files net out cells is done =
        let same : done.circuit ≡ echo = is_echo files net done.circuit is done.says in
        let text : done.text ≡ echo_verilog =
        has_text echo echo_accepted done.text echo_verilog (subst (λ (circuit : Netlist). IsVerilogOf circuit done.text) same done.is) echo_has_text in
        let longer : echo_verilog ++ codes " " ≡ echo_verilog = one_text_of files out (echo_verilog ++ codes " ") done.text done.wrote ∙ text in
        omega (arith, ap length longer)

    pub other_count_is_not_told : OtherCountIsNotTold
    other_count_is_not_told files net out is done =
        let same : done.circuit ≡ echo = is_echo files net done.circuit is done.says in
        let two : 3 ≡ 2 = done.count ∙ ap (λ (circuit : Netlist). length circuit.cells) same in
        omega (arith, two)

pub causes_are_apart : CausesAreApart
causes_are_apart file out at = (λ h. h, λ h. h)
