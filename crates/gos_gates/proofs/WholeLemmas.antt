-- What the shape of a whole text says: that the text is the one of the circuit that it is read as.
use Rattle.std.proofs.Common.{◌≡◌, false, ℕ, zero, suc, ◌+◌, ◌-◌, ◌*◌, ◌^◌, ◌<◌, ◌≤◌, List, [], ◌∷◌, ◌++◌, length, codes, refl, sym, ◌∙◌, ap, subst, arith, append_assoc, append-nil}
use Rattle.std.specs.Char.{is_ascii_digit}
use Rattle.std.specs.Fmt.{decimal}
use Rattle.std.specs.List.{AllByRecursion}
use Rattle.std.proofs.lemmas.List.{append_cancel_left}
use Rattle.gos_lex.specs.ItemTexts.{ended}
use Rattle.gos_lex.proofs.NumberTextLemmas.{number_code}
use Rattle.gos_gates.specs.Gates.{Gates, IsLiteral, LookBack, AreGates, variables}
use Rattle.gos_gates.specs.AagText.{spaced, last, header_text, input_lines, latch_lines, output_lines, gate_lines, aag_text}
use Rattle.gos_gates.specs.AagFaults.{IsRead}
use Rattle.gos_gates.specs.inner.Shapes.{Shape, End, Word, Number, Says, gates_shape, all_gates, outputs_shape, all_outputs, latches_shape, all_latches, inputs_shape, lines_shape, whole_shape}
use Rattle.gos_gates.specs.declared.header.Header.{Header}

-- a circuit with the inputs of the first line
abbrev circuit : Header → List ℕ → List ℕ → List (ℕ × ℕ) → Gates
circuit h ls os gs = record { inputs = h.inputs; latches = ls; outputs = os; gates = gs }

-- three parts and what is behind them
line_and_rest : (a b d rest : List ℕ) → ((a ++ b) ++ d) ++ rest ≡ a ++ (b ++ (d ++ rest))
line_and_rest a b d rest = append_assoc (a ++ b) d rest ∙ append_assoc a b (d ++ rest)

gates_say : (h : Header) (ls os : List ℕ) (count v left : ℕ) (gs : List (ℕ × ℕ)) (b : Gates) (bytes : List ℕ) → v ≡ suc count → Says (gates_shape h ls os v left gs) b bytes
    → (more : List (ℕ × ℕ)) × (length more ≡ left) × LookBack count more × (b ≡ circuit h ls os (gs ++ more)) × (bytes ≡ gate_lines v more)
gates_say h ls os count v zero gs b bytes is (same, none) = ([], refl, tt, sym same ∙ ap (circuit h ls os) (sym (append-nil gs)), none)
gates_say h ls os count v (suc left) gs b bytes is (m1, (x, m2, wx, (y, m3, wy, says, e3), e2), e1) =
    let rest = gates_say h ls os (suc count) (v + 1) left (gs ++ (x, y) ∷ []) b m3 (omega (arith, is)) says in (
      (x, y) ∷ rest.0,
      omega (arith, rest.1),
      (omega (arith, wx, is), wy, rest.2),
      rest.3 ∙ ap (circuit h ls os) (append_assoc gs ((x, y) ∷ []) rest.0),
      e1
          ∙ (ap (λ m. spaced (2 * v) ++ m) (e2 ∙ ap (λ m. spaced x ++ m) (e3 ∙ ap (λ m. last y ++ m) rest.4))
          ∙ sym (line_and_rest (spaced (2 * v)) (spaced x) (last y) (gate_lines (v + 1) rest.0))),
    )

say_gates : (h : Header) (ls os : List ℕ) (count v : ℕ) (gs more : List (ℕ × ℕ)) (b : Gates) → v ≡ suc count → LookBack count more → b ≡ circuit h ls os (gs ++ more)
    → Says (gates_shape h ls os v (length more) gs) b (gate_lines v more)
say_gates h ls os count v gs [] b is back same = (sym (same ∙ ap (circuit h ls os) (append-nil gs)), refl)
say_gates h ls os count v gs (g ∷ more) b is back same =
    let lines : List ℕ = gate_lines (v + 1) more in
    let rest = say_gates h ls os (suc count) (v + 1) (gs ++ g ∷ []) more b (omega (arith, is)) back.2 (same ∙ ap (circuit h ls os) (sym (append_assoc gs (g ∷ []) more))) in (
      spaced g.0 ++ (last g.1 ++ lines),
      (g.0, last g.1 ++ lines, omega (arith, back.0, is), (g.1, lines, back.1, rest, refl), refl),
      line_and_rest (spaced (2 * v)) (spaced g.0) (last g.1) lines,
    )

outputs_say : (h : Header) (ls : List ℕ) (left : ℕ) (os : List ℕ) (b : Gates) (bytes : List ℕ) → Says (outputs_shape h ls left os) b bytes
    → (more rest : List ℕ) × (length more ≡ left) × AllByRecursion (IsLiteral h.variables) more × Says (all_gates h ls (os ++ more)) b rest × (bytes ≡ output_lines more ++ rest)
outputs_say h ls zero os b bytes says = ([], bytes, refl, tt, subst (λ (o : List ℕ). Says (all_gates h ls o) b bytes) (sym (append-nil os)) says, refl)
outputs_say h ls (suc left) os b bytes (n, m, within, says, e) =
    let rest = outputs_say h ls left (os ++ n ∷ []) b m says in (
      n ∷ rest.0,
      rest.1,
      omega (arith, rest.2),
      (within, rest.3),
      subst (λ (o : List ℕ). Says (all_gates h ls o) b rest.1) (append_assoc os (n ∷ []) rest.0) rest.4,
      e ∙ (ap (λ more. last n ++ more) rest.5 ∙ sym (append_assoc (last n) (output_lines rest.0) rest.1)),
    )

say_outputs : (h : Header) (ls os more : List ℕ) (b : Gates) (rest : List ℕ) → AllByRecursion (IsLiteral h.variables) more → Says (all_gates h ls (os ++ more)) b rest
    → Says (outputs_shape h ls (length more) os) b (output_lines more ++ rest)
say_outputs h ls os [] b rest all says = subst (λ (o : List ℕ). Says (all_gates h ls o) b rest) (append-nil os) says
say_outputs h ls os (n ∷ more) b rest all says =
    let known = say_outputs h ls (os ++ n ∷ []) more b rest all.1 (subst (λ (o : List ℕ). Says (all_gates h ls o) b rest) (sym (append_assoc os (n ∷ []) more)) says) in
    (n, output_lines more ++ rest, all.0, known, append_assoc (last n) (output_lines more) rest)

latches_say : (h : Header) (v left : ℕ) (ls : List ℕ) (b : Gates) (bytes : List ℕ) → Says (latches_shape h v left ls) b bytes
    → (more rest : List ℕ) × (length more ≡ left) × AllByRecursion (IsLiteral h.variables) more × Says (all_outputs h (ls ++ more)) b rest × (bytes ≡ latch_lines v more ++ rest)
latches_say h v zero ls b bytes says = ([], bytes, refl, tt, subst (λ (l : List ℕ). Says (all_outputs h l) b bytes) (sym (append-nil ls)) says, refl)
latches_say h v (suc left) ls b bytes (m1, (n, m2, within, says, e2), e1) =
    let rest = latches_say h (v + 1) left (ls ++ n ∷ []) b m2 says in
    let lines : List ℕ = latch_lines (v + 1) rest.0 in
    let line = e2 ∙ ap (λ more. last n ++ more) rest.5 in (
      n ∷ rest.0,
      rest.1,
      omega (arith, rest.2),
      (within, rest.3),
      subst (λ (l : List ℕ). Says (all_outputs h l) b rest.1) (append_assoc ls (n ∷ []) rest.0) rest.4,
      e1 ∙ (ap (λ more. spaced (2 * v) ++ more) line ∙ sym (line_and_rest (spaced (2 * v)) (last n) lines rest.1)),
    )

say_latches : (h : Header) (v : ℕ) (ls more : List ℕ) (b : Gates) (rest : List ℕ) → AllByRecursion (IsLiteral h.variables) more → Says (all_outputs h (ls ++ more)) b rest
    → Says (latches_shape h v (length more) ls) b (latch_lines v more ++ rest)
say_latches h v ls [] b rest all says = subst (λ (l : List ℕ). Says (all_outputs h l) b rest) (append-nil ls) says
say_latches h v ls (n ∷ more) b rest all says =
    let lines : List ℕ = latch_lines (v + 1) more in
    let known = say_latches h (v + 1) (ls ++ n ∷ []) more b rest all.1 (subst (λ (l : List ℕ). Says (all_outputs h l) b rest) (sym (append_assoc ls (n ∷ []) more)) says) in
    (last n ++ (lines ++ rest), (n, lines ++ rest, all.0, known, refl), line_and_rest (spaced (2 * v)) (last n) lines rest)

inputs_say : (h : Header) (v left : ℕ) (b : Gates) (bytes : List ℕ) → Says (inputs_shape h v left) b bytes
    → (rest : List ℕ) × Says (all_latches h) b rest × (bytes ≡ input_lines v left ++ rest)
inputs_say h v zero b bytes says = (bytes, says, refl)
inputs_say h v (suc left) b bytes (m, says, e) =
    let rest = inputs_say h (v + 1) left b m says in
    (rest.0, rest.1, e ∙ (ap (λ more. last (2 * v) ++ more) rest.2 ∙ sym (append_assoc (last (2 * v)) (input_lines (v + 1) left) rest.0)))

say_inputs : (h : Header) (v left : ℕ) (b : Gates) (rest : List ℕ) → Says (all_latches h) b rest → Says (inputs_shape h v left) b (input_lines v left ++ rest)
say_inputs h v zero b rest says = says
say_inputs h v (suc left) b rest says =
    (input_lines (v + 1) left ++ rest, say_inputs h (v + 1) left b rest says, append_assoc (last (2 * v)) (input_lines (v + 1) left) rest)

-- a text in its parts: the counts, and what stands behind them
abbrev parts : ℕ → ℕ → ℕ → ℕ → ℕ → List ℕ → List ℕ
parts m i l o g body = codes "aag " ++ (spaced m ++ (spaced i ++ (spaced l ++ (spaced o ++ (last g ++ body)))))

-- five parts and what is behind them
header_and_rest : (a b d e f body : List ℕ) → ((((a ++ b) ++ d) ++ e) ++ f) ++ body ≡ a ++ (b ++ (d ++ (e ++ (f ++ body))))
header_and_rest a b d e f body = append_assoc (((a ++ b) ++ d) ++ e) f body ∙ (append_assoc ((a ++ b) ++ d) e (f ++ body) ∙ line_and_rest a b d (e ++ (f ++ body)))

-- the lines behind the first one
abbrev body_text : Gates → List ℕ
body_text a = input_lines 1 a.inputs ++ (latch_lines (a.inputs + 1) a.latches ++ (output_lines a.outputs ++ gate_lines (a.inputs + length a.latches + 1) a.gates))

in_parts : (a : Gates) → aag_text a ≡ parts (variables a) a.inputs (length a.latches) (length a.outputs) (length a.gates) (body_text a)
in_parts a =
    let inputs : List ℕ = input_lines 1 a.inputs in
    let latches : List ℕ = latch_lines (a.inputs + 1) a.latches in
    let outputs : List ℕ = output_lines a.outputs in
    let gates : List ℕ = gate_lines (a.inputs + length a.latches + 1) a.gates in
    append_assoc ((header_text a ++ inputs) ++ latches) outputs gates
    ∙ (line_and_rest (header_text a) inputs latches (outputs ++ gates)
    ∙ ap (λ more. codes "aag " ++ more)
    (header_and_rest (spaced (variables a)) (spaced a.inputs) (spaced (length a.latches)) (spaced (length a.outputs)) (last (length a.gates)) (body_text a)))

-- what a first line's counts bound and count
record Counted (m i l o : ℕ) (ls os : List ℕ) (gs : List (ℕ × ℕ)) : Type 0 where
  few : m ≤ 2147483647
  few_outputs : o ≤ 4294967295
  inputs : i ≤ m
  sources : l ≤ m - i
  latches : length ls ≡ l
  outputs : length os ≡ o
  gates : length gs ≡ m - i - l
  held : AllByRecursion (IsLiteral m) ls
  shown : AllByRecursion (IsLiteral m) os
  back : LookBack (i + l) gs

-- counts and lines that fit one another are a circuit's text
together : (m i l o : ℕ) (ls os : List ℕ) (gs : List (ℕ × ℕ)) (a : Gates) (bytes body : List ℕ) → Counted m i l o ls os gs
    → a ≡ record { inputs = i; latches = ls; outputs = os; gates = gs } → body ≡ input_lines 1 i ++ (latch_lines (i + 1) ls ++ (output_lines os ++ gate_lines (i + l + 1) gs))
    → bytes ≡ parts m i l o (m - i - l) body → IsRead bytes a
together m i l o ls os gs a bytes body counted is lines text = subst (IsRead bytes) (sym is) (record { are = are; is = text ∙ (whole ∙ sym (in_parts b)) })
  where
    b : Gates
    b = record { inputs = i; latches = ls; outputs = os; gates = gs }

    size : i + length ls + length gs ≡ m
    size = omega (arith, counted.inputs, counted.sources, counted.latches, counted.gates)

    are : AreGates b
    are =
        record {
          few = omega (arith, size, counted.few);
          few_outputs = omega (arith, counted.outputs, counted.few_outputs);
          latches = subst (λ (n : ℕ). AllByRecursion (IsLiteral n) ls) (sym size) counted.held;
          outputs = subst (λ (n : ℕ). AllByRecursion (IsLiteral n) os) (sym size) counted.shown;
          gates = subst (λ (n : ℕ). LookBack (i + n) gs) (sym counted.latches) counted.back;
        }

    behind : body ≡ body_text b
    behind =
        lines ∙ ap (λ (n : ℕ). input_lines 1 i ++ (latch_lines (i + 1) ls ++ (output_lines os ++ gate_lines (i + n + 1) gs))) (sym counted.latches)

    whole : parts m i l o (m - i - l) body ≡ parts (variables b) i (length ls) (length os) (length gs) (body_text b)
    whole k = parts (sym size k) i (sym counted.latches k) (sym counted.outputs k) (sym counted.gates k) (behind k)

-- what the lines behind a first line are read as
abbrev LinesOf : Header → Gates → List ℕ → Type 0
LinesOf h b bytes =
    (ls os : List ℕ)
    × (gs : List (ℕ × ℕ))
    × (length ls ≡ h.latches)
    × (length os ≡ h.outputs)
    × (length gs ≡ h.variables - h.inputs - h.latches)
    × AllByRecursion (IsLiteral h.variables) ls
    × AllByRecursion (IsLiteral h.variables) os
    × LookBack (h.inputs + h.latches) gs
    × (b ≡ circuit h ls os gs)
    × (bytes ≡ input_lines 1 h.inputs ++ (latch_lines (h.inputs + 1) ls ++ (output_lines os ++ gate_lines (h.inputs + h.latches + 1) gs)))

lines_say : (h : Header) (b : Gates) (bytes : List ℕ) → Says (lines_shape h) b bytes → LinesOf h b bytes
lines_say h b bytes says = inputs (inputs_say h 1 h.inputs b bytes says)
  where
    gates : (ls os rest : List ℕ) → Says (all_gates h ls os) b rest
        → (gs : List (ℕ × ℕ))
        × (length gs ≡ h.variables - h.inputs - h.latches)
        × LookBack (h.inputs + h.latches) gs
        × (b ≡ circuit h ls os gs)
        × (rest ≡ gate_lines (h.inputs + h.latches + 1) gs)
    gates ls os rest known = gates_say h ls os (h.inputs + h.latches) (h.inputs + h.latches + 1) (h.variables - h.inputs - h.latches) [] b rest (omega arith) known

    inputs : (rest : List ℕ) × Says (all_latches h) b rest × (bytes ≡ input_lines 1 h.inputs ++ rest) → LinesOf h b bytes
    inputs (first, says_first, is_first) = latches (latches_say h (h.inputs + 1) h.latches [] b first says_first)
      where
        latches : (ls rest : List ℕ)
            × (length ls ≡ h.latches)
            × AllByRecursion (IsLiteral h.variables) ls
            × Says (all_outputs h ls) b rest
            × (first ≡ latch_lines (h.inputs + 1) ls ++ rest) → LinesOf h b bytes
        latches (ls, second, long, held, says_second, is_second) = outputs (outputs_say h ls h.outputs [] b second says_second)
          where
            outputs : (os rest : List ℕ)
                × (length os ≡ h.outputs)
                × AllByRecursion (IsLiteral h.variables) os
                × Says (all_gates h ls os) b rest
                × (second ≡ output_lines os ++ rest) → LinesOf h b bytes
            outputs (os, third, many, shown, says_third, is_third) =
                let known = gates ls os third says_third in (
                  ls,
                  os,
                  known.0,
                  long,
                  many,
                  known.1,
                  held,
                  shown,
                  known.2,
                  known.3,
                  is_first
                      ∙ ap (λ more. input_lines 1 h.inputs ++ more) (is_second
                      ∙ ap (λ more. latch_lines (h.inputs + 1) ls ++ more) (is_third ∙ ap (λ more. output_lines os ++ more) known.4)),
                )

pub whole_says : (b : Gates) (bytes : List ℕ) → Says whole_shape b bytes → IsRead bytes b
whole_says b bytes (t1, (m, t2, wm, (i, t3, wi, (l, t4, wl, (o, t5, wo, (t6, says, e6), e5), e4), e3), e2), e1) =
    read (lines_say (record { variables = m; inputs = i; latches = l; outputs = o }) b t6 says)
  where
    text : bytes ≡ parts m i l o (m - i - l) t6
    text =
        e1
        ∙ ap (λ more. codes "aag " ++ more) (e2
        ∙ ap (λ more. spaced m ++ more) (e3
        ∙ ap (λ more. spaced i ++ more) (e4 ∙ ap (λ more. spaced l ++ more) (e5 ∙ ap (λ more. spaced o ++ more) e6))))

    read : LinesOf (record { variables = m; inputs = i; latches = l; outputs = o }) b t6 → IsRead bytes b
    read (ls, os, gs, long, many, rest, held, shown, back, same, lines) =
        together m i l o ls os gs b bytes t6
        (record {
          few = wm;
          few_outputs = wo;
          inputs = wi;
          sources = wl;
          latches = long;
          outputs = many;
          gates = rest;
          held = held;
          shown = shown;
          back = back;
        })
        same lines text

pub says_whole : (a : Gates) → AreGates a → Says whole_shape a (aag_text a)
says_whole a are =
    let i : ℕ = a.inputs in
    let l : ℕ = length a.latches in
    let o : ℕ = length a.outputs in
    let m : ℕ = variables a in
    let h : Header = record { variables = m; inputs = i; latches = l; outputs = o } in
    let left : m - i - l ≡ length a.gates = omega arith in
    let gates = say_gates h a.latches a.outputs (i + l) (i + l + 1) [] a.gates a (omega arith) are.gates refl in
    let all = subst (λ (n : ℕ). Says (gates_shape h a.latches a.outputs (i + l + 1) n []) a (gate_lines (i + l + 1) a.gates)) (sym left) gates in
    let outputs = say_outputs h a.latches [] a.outputs a (gate_lines (i + l + 1) a.gates) are.outputs all in
    let latches = say_latches h (i + 1) [] a.latches a (output_lines a.outputs ++ gate_lines (i + l + 1) a.gates) are.latches outputs in
    let inputs = say_inputs h 1 i a (latch_lines (i + 1) a.latches ++ (output_lines a.outputs ++ gate_lines (i + l + 1) a.gates)) latches in
    let t6 : List ℕ = body_text a in
    let t5 : List ℕ = last (m - i - l) ++ t6 in
    let t4 : List ℕ = spaced o ++ t5 in
    let t3 : List ℕ = spaced l ++ t4 in
    let t2 : List ℕ = spaced i ++ t3 in
    let says : Says whole_shape a (parts m i l o (m - i - l) t6) = (
      spaced m ++ t2,
      (
        m,
        t2,
        omega (arith, are.few),
        (i, t3, omega arith, (l, t4, omega arith, (o, t5, are.few_outputs, (t6, inputs, refl), refl), refl), refl),
        refl,
      ),
      refl,
    ) in
    subst (Says whole_shape a) (ap (λ (g : ℕ). parts m i l o g t6) left ∙ sym (in_parts a)) says

-- numbers are small and end with a byte of their own
abbrev Plain : Shape → Type 0
Plain (End a) = Unit {0}
Plain (Word word rest) = Plain rest
Plain (Number high end rest) = (high < 2 ^ 64) × (is_ascii_digit end ≡ false) × ((n : ℕ) → n ≤ high → Plain (rest n))

-- bytes of such a shape are read as one circuit, and none begin longer ones
says_front : (s : Shape) (a b : Gates) (bytes more : List ℕ) → Plain s → Says s a bytes → Says s b (bytes ++ more) → (a ≡ b) × (more ≡ [])
says_front (End d) a b bytes more plain first second = (sym first.0 ∙ second.0, ap (λ front. front ++ more) (sym first.1) ∙ second.1)
says_front (Word word rest) a b bytes more plain first second =
    let same = append_cancel_left word (first.0 ++ more) second.0 (sym (append_assoc word first.0 more) ∙ (ap (λ front. front ++ more) (sym first.2) ∙ second.2)) in
    says_front rest a b first.0 more plain first.1 (subst (Says rest b) (sym same) second.1)
says_front (Number high end rest) a b bytes more plain first second =
    let item : List ℕ = ended end (decimal first.0) in
    let same =
    number_code 0 high end plain.0 plain.1 first.0 second.0 (first.1 ++ more) second.1 (omega arith, first.2) (omega arith, second.2)
    (sym (append_assoc item first.1 more) ∙ (ap (λ front. front ++ more) (sym first.4) ∙ second.4)) in
    let other = subst (λ (n : ℕ). Says (rest n) b second.1) (sym same.0) second.3 in
    says_front (rest first.0) a b first.1 more (plain.2 first.0 first.2) first.3 (subst (Says (rest first.0) b) (sym same.1) other)

gates_plain : (h : Header) (ls os : List ℕ) (v left : ℕ) (gs : List (ℕ × ℕ)) → v + left ≤ 4294967296 → Plain (gates_shape h ls os v left gs)
gates_plain h ls os v zero gs few = tt
gates_plain h ls os v (suc left) gs few =
    (omega (arith, few), refl, (λ x inside. (omega (arith, few, inside), refl, (λ y below. gates_plain h ls os (v + 1) left (gs ++ (x, y) ∷ []) (omega (arith, few))))))

-- the counts of a first line
abbrev Fits : Header → Type 0
Fits h = (h.variables ≤ 2147483647) × (h.inputs + h.latches ≤ h.variables)

outputs_plain : (h : Header) (ls : List ℕ) (left : ℕ) (os : List ℕ) → Fits h → Plain (outputs_shape h ls left os)
outputs_plain h ls zero os fits = gates_plain h ls os (h.inputs + h.latches + 1) (h.variables - h.inputs - h.latches) [] (omega (arith, fits.0, fits.1))
outputs_plain h ls (suc left) os fits = (omega (arith, fits.0), refl, (λ n inside. outputs_plain h ls left (os ++ n ∷ []) fits))

latches_plain : (h : Header) (v left : ℕ) (ls : List ℕ) → Fits h → Plain (latches_shape h v left ls)
latches_plain h v zero ls fits = outputs_plain h ls h.outputs [] fits
latches_plain h v (suc left) ls fits = (omega (arith, fits.0), refl, (λ n inside. latches_plain h (v + 1) left (ls ++ n ∷ []) fits))

inputs_plain : (h : Header) (v left : ℕ) → Fits h → Plain (inputs_shape h v left)
inputs_plain h v zero fits = latches_plain h (h.inputs + 1) h.latches [] fits
inputs_plain h v (suc left) fits = inputs_plain h (v + 1) left fits

whole_plain : Plain whole_shape
whole_plain = (
  omega arith,
  refl,
  (
      λ m wm. (
        omega (arith, wm),
        refl,
        (
            λ i wi. (
              omega (arith, wm),
              refl,
              (
                  λ l wl. (
                    omega arith,
                    refl,
                    (λ o wo. inputs_plain (record { variables = m; inputs = i; latches = l; outputs = o }) 1 i (wm, omega (arith, wi, wl))),
                  )
                  ),
            )
            ),
      )
      ),
)

-- a text is that of one circuit, and no circuit's text begins another
pub whole_front : (text more : List ℕ) (a b : Gates) → Says whole_shape a text → Says whole_shape b (text ++ more) → (a ≡ b) × (more ≡ [])
whole_front text more a b first second = says_front whole_shape a b text more whole_plain first second
