-- The latch has one text.
use Rattle.std.proofs.Common.{◌≡◌, ℕ, zero, suc, true, false, List, [], ◌++◌, length, refl, sym, ◌∙◌, ap, arith, codes}
use Rattle.std.specs.Fmt.{digits}
use Rattle.gos_netlist.specs.Nets.{Input, Or, Reg}
use Rattle.gos_netlist.specs.SmallNets.{bit, latch}
use Rattle.gos_verilog.specs.PortNets.{PortNet, port_nets}
use Rattle.gos_verilog.specs.Lines.{driver}
use Rattle.gos_verilog.specs.VerilogText.{IsFed, IsItsNet, IsVerilogOf, declarations, outputs}
use Rattle.gos_verilog.specs.SmallTexts.{latch_text, unreset_text, longer_text, LatchText, UnresetIsNoText, LongerIsNoText}

-- the lines of its cells
abbrev lines : List ℕ
lines = driver 0 (bit Input) (codes "main__run") ++ (driver 1 (bit (Or 0 2)) [] ++ (driver 2 (bit (Reg 1)) [] ++ (driver 3 (bit (Reg 1)) [] ++ [])))

run_net : PortNet
run_net = record { name = codes "main__run"; input = true; width = 1; cell = 0 }

whole : declarations latch ++ lines ++ outputs latch ≡ latch_text
unfolding digits
whole = refl

pub latch_has_text : LatchText
unfolding run_net
latch_has_text = (
  lines,
  (
    codes "main__run",
    driver 1 (bit (Or 0 2)) [] ++ (driver 2 (bit (Reg 1)) [] ++ (driver 3 (bit (Reg 1)) [] ++ [])),
    λ input. (0, run_net, refl, refl, refl, refl),
    (
      [],
      driver 2 (bit (Reg 1)) [] ++ (driver 3 (bit (Reg 1)) [] ++ []),
      λ input. absurd (cc input),
      ([], driver 3 (bit (Reg 1)) [] ++ [], λ input. absurd (cc input), ([], [], λ input. absurd (cc input), refl, refl), refl),
      refl,
    ),
    refl,
  ),
  sym whole,
)

-- the first cell reads `run`
fed_by_run : (source : List ℕ) → IsFed IsItsNet (port_nets latch.ports) 0 (bit Input) source → source ≡ codes "main__run"
fed_by_run source (zero, net, is, input, feeds, named) = named ∙ ap (λ (p : PortNet). p.name) (let same : net ≡ record { name = codes "main__run"; input = true; width = 1; cell = 0 } = cc is in same)
fed_by_run source (suc zero, net, is, input, feeds, named) =
    let same : net ≡ record { name = codes "main__done"; input = false; width = 1; cell = 3 } = cc is in
    absurd (let both : false ≡ true = sym (ap (λ (p : PortNet). p.input) same) ∙ input in cc both)
fed_by_run source (suc (suc k), net, is, input, feeds, named) = absurd (cc is)

-- it has no other text
one_text : (text : List ℕ) → IsVerilogOf latch text → text ≡ latch_text
one_text text (drivers, (s0, r0, fed, (s1, r1, f1, (s2, r2, f2, (s3, r3, f3, end, e3), e2), e1), e0), is) =
    is
    ∙ (ap (λ body. declarations latch ++ body ++ outputs latch)
    (e0
    ∙ ((λ i. driver 0 (bit Input) (fed_by_run s0 (fed refl) i) ++ r0)
    ∙ ap (λ rest. driver 0 (bit Input) (codes "main__run") ++ rest) (e1 ∙ ap (λ rest. driver 1 (bit (Or 0 2)) [] ++ rest) (e2 ∙ ap (λ rest. driver 2 (bit (Reg 1)) [] ++ rest) (e3 ∙ ap (λ rest. driver 3 (bit (Reg 1)) [] ++ rest) end)))))
    ∙ whole)

pub unreset_is_none : UnresetIsNoText
unreset_is_none is = omega (arith, ap length (one_text unreset_text is))

pub longer_is_none : LongerIsNoText
longer_is_none is = omega (arith, ap length (one_text longer_text is))
