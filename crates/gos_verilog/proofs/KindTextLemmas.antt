-- The text of each kind of line, by its slots.
use Rattle.std.proofs.Common.{◌≡◌, ℕ, List, [], ◌∷◌, ◌++◌, sym, ◌∙◌, ap, arith, append_assoc, codes}
use Rattle.std.proofs.lemmas.Fmt.{decimal_digit}
use Rattle.std.specs.Fmt.{decimal}
use Rattle.gos_netlist.specs.Nets.{Const, Not, Mux, Gate, Reg}
use Rattle.gos_verilog.specs.Lines.{assignment, cell_net, binary, driver_of}
use Rattle.gos_verilog.specs.inner.Slots.{Slot', line_text}
use Rattle.gos_verilog.specs.inner.CellLines.{exactly, net_behind, const_slots, not_slots, binary_slots, mux_slots, gate_slots, reg_slots}

const_parts : (p n e d t i w k : List ℕ)
    → (((p ++ n) ++ (i ++ 32 ∷ [])) ++ ((e ++ (w ++ 39 ∷ [])) ++ ((d ++ (k ++ 59 ∷ [])) ++ []))) ++ t
    ≡ (((p ++ (n ++ i)) ++ 32 ∷ e) ++ ((w ++ 39 ∷ d) ++ k)) ++ 59 ∷ t
const_parts p n e d t i w k = simp append_assoc

pub const_text : (i w k : ℕ) → line_text (const_slots i w) (codes "\n") (i ∷ w ∷ k ∷ []) ≡ driver_of i w [] (Const k)
const_text i w k = const_parts (codes "  assign ") (codes "n") (codes "= ") (codes "d") (codes "\n") (decimal i) (decimal w) (decimal k)

not_parts : (p n e c t i a : List ℕ)
    → (((p ++ n) ++ (i ++ 32 ∷ [])) ++ (((e ++ (c ++ n)) ++ (a ++ 59 ∷ [])) ++ [])) ++ t ≡ (((p ++ (n ++ i)) ++ 32 ∷ e) ++ (c ++ (n ++ a))) ++ 59 ∷ t
not_parts p n e c t i a = simp append_assoc

pub not_text : (i w a : ℕ) → line_text (not_slots i) (codes "\n") (i ∷ a ∷ []) ≡ driver_of i w [] (Not a)
not_text i w a = not_parts (codes "  assign ") (codes "n") (codes "= ") (codes "~") (codes "\n") (decimal i) (decimal a)

-- a slot and what follows, in one
flat : (x y d rest : List ℕ) (c : ℕ) → ((x ++ y) ++ (d ++ c ∷ [])) ++ rest ≡ x ++ (y ++ (d ++ c ∷ rest))
flat x y d rest c = simp append_assoc

flat_more : (x y d rest t : List ℕ) (c : ℕ) → (((x ++ y) ++ (d ++ c ∷ [])) ++ rest) ++ t ≡ x ++ (y ++ (d ++ c ∷ (rest ++ t)))
flat_more x y d rest t c = append_assoc ((x ++ y) ++ (d ++ c ∷ [])) rest t ∙ flat x y d (rest ++ t) c

-- a slot before others and the last word
flat_one : (x d rest t : List ℕ) (c : ℕ) → ((x ++ (d ++ c ∷ [])) ++ rest) ++ t ≡ x ++ (d ++ c ∷ (rest ++ t))
flat_one x d rest t c = append_assoc (x ++ (d ++ c ∷ [])) rest t ∙ (append_assoc x (d ++ c ∷ []) (rest ++ t) ∙ ap (λ more. x ++ more) (append_assoc d (c ∷ []) (rest ++ t)))

-- the head of an assignment and what follows, in one
flat_head : (p n i e value t : List ℕ) → (((p ++ (n ++ i)) ++ 32 ∷ e) ++ value) ++ 59 ∷ t ≡ p ++ (n ++ (i ++ 32 ∷ (e ++ (value ++ 59 ∷ t))))
flat_head p n i e value t = simp append_assoc

flat_binary : (n a word b t : List ℕ) → (((((n ++ a) ++ 32 ∷ []) ++ word) ++ 32 ∷ []) ++ (n ++ b)) ++ 59 ∷ t ≡ n ++ (a ++ 32 ∷ (word ++ 32 ∷ (n ++ (b ++ 59 ∷ t))))
flat_binary n a word b t = simp append_assoc

flat_word : (word n b t : List ℕ) → (((word ++ 32 ∷ n) ++ (b ++ 59 ∷ [])) ++ []) ++ t ≡ word ++ 32 ∷ (n ++ (b ++ 59 ∷ t))
flat_word word n b t =
    append_assoc ((word ++ 32 ∷ n) ++ (b ++ 59 ∷ [])) [] t
    ∙ (append_assoc (word ++ 32 ∷ n) (b ++ 59 ∷ []) t
    ∙ (append_assoc word (32 ∷ n) ((b ++ 59 ∷ []) ++ t) ∙ ap (λ more. word ++ 32 ∷ (n ++ more)) (append_assoc b (59 ∷ []) t)))

binary_parts : (p n e word t i a b : List ℕ)
    → (((p ++ n) ++ (i ++ 32 ∷ [])) ++ (((e ++ n) ++ (a ++ 32 ∷ [])) ++ (((word ++ 32 ∷ n) ++ (b ++ 59 ∷ [])) ++ []))) ++ t
    ≡ (((p ++ (n ++ i)) ++ 32 ∷ e) ++ (((((n ++ a) ++ 32 ∷ []) ++ word) ++ 32 ∷ []) ++ (n ++ b))) ++ 59 ∷ t
binary_parts p n e word t i a b =
    flat_more p n i (((e ++ n) ++ (a ++ 32 ∷ [])) ++ (((word ++ 32 ∷ n) ++ (b ++ 59 ∷ [])) ++ [])) t 32
    ∙ (ap (λ more. p ++ (n ++ (i ++ 32 ∷ more))) (flat_more e n a (((word ++ 32 ∷ n) ++ (b ++ 59 ∷ [])) ++ []) t 32 ∙ ap (λ more. e ++ (n ++ (a ++ 32 ∷ more))) (flat_word word n b t))
    ∙ sym (flat_head p n i e (((((n ++ a) ++ 32 ∷ []) ++ word) ++ 32 ∷ []) ++ (n ++ b)) t ∙ ap (λ more. p ++ (n ++ (i ++ 32 ∷ (e ++ more)))) (flat_binary n a word b t)))

pub binary_text : (i a b : ℕ) (word : List ℕ) → line_text (binary_slots i (word ++ codes " n")) (codes "\n") (i ∷ a ∷ b ∷ []) ≡ assignment (cell_net i) (binary a word b)
binary_text i a b word = binary_parts (codes "  assign ") (codes "n") (codes "= ") word (codes "\n") (decimal i) (decimal a) (decimal b)

flat_choice : (n s q a c last t : List ℕ) → ((((n ++ s) ++ 32 ∷ q) ++ (n ++ a)) ++ 32 ∷ c ++ last) ++ 59 ∷ t ≡ n ++ (s ++ 32 ∷ (q ++ (n ++ (a ++ 32 ∷ (c ++ (last ++ 59 ∷ t))))))
flat_choice n s q a c last t =
    append_assoc (((n ++ s) ++ 32 ∷ q) ++ (n ++ a) ++ 32 ∷ c) last (59 ∷ t)
    ∙ (append_assoc (((n ++ s) ++ 32 ∷ q) ++ (n ++ a)) (32 ∷ c) (last ++ 59 ∷ t)
    ∙ (append_assoc ((n ++ s) ++ 32 ∷ q) (n ++ a) (32 ∷ (c ++ (last ++ 59 ∷ t)))
    ∙ (append_assoc (n ++ s) (32 ∷ q) ((n ++ a) ++ 32 ∷ (c ++ (last ++ 59 ∷ t)))
    ∙ (append_assoc n s (32 ∷ (q ++ ((n ++ a) ++ 32 ∷ (c ++ (last ++ 59 ∷ t)))))
    ∙ ap (λ more. n ++ (s ++ 32 ∷ (q ++ more))) (append_assoc n a (32 ∷ (c ++ (last ++ 59 ∷ t))))))))

flat_last : (c n b t : List ℕ) → (((c ++ n) ++ (b ++ 59 ∷ [])) ++ []) ++ t ≡ c ++ (n ++ (b ++ 59 ∷ t))
flat_last c n b t = simp append_assoc

mux_parts : (p n e q c t i s a b : List ℕ)
    → (((p ++ n) ++ (i ++ 32 ∷ [])) ++ (((e ++ n) ++ (s ++ 32 ∷ [])) ++ (((q ++ n) ++ (a ++ 32 ∷ [])) ++ (((c ++ n) ++ (b ++ 59 ∷ [])) ++ [])))) ++ t
    ≡ (((p ++ (n ++ i)) ++ 32 ∷ e) ++ (((((n ++ s) ++ 32 ∷ q) ++ (n ++ a)) ++ 32 ∷ c) ++ (n ++ b))) ++ 59 ∷ t
mux_parts p n e q c t i s a b =
    flat_more p n i (((e ++ n) ++ (s ++ 32 ∷ [])) ++ (((q ++ n) ++ (a ++ 32 ∷ [])) ++ (((c ++ n) ++ (b ++ 59 ∷ [])) ++ []))) t 32
    ∙ (ap (λ more. p ++ (n ++ (i ++ 32 ∷ more)))
    (flat_more e n s (((q ++ n) ++ (a ++ 32 ∷ [])) ++ (((c ++ n) ++ (b ++ 59 ∷ [])) ++ [])) t 32
    ∙ ap (λ more. e ++ (n ++ (s ++ 32 ∷ more))) (flat_more q n a (((c ++ n) ++ (b ++ 59 ∷ [])) ++ []) t 32 ∙ ap (λ more. q ++ (n ++ (a ++ 32 ∷ more))) (flat_last c n b t)))
    ∙ sym (flat_head p n i e (((((n ++ s) ++ 32 ∷ q) ++ (n ++ a)) ++ 32 ∷ c) ++ (n ++ b)) t ∙ ap (λ more. p ++ (n ++ (i ++ 32 ∷ (e ++ more)))) (flat_choice n s q a c (n ++ b) t ∙ ap (λ more. n ++ (s ++ 32 ∷ (q ++ (n ++ (a ++ 32 ∷ (c ++ more)))))) (append_assoc n b (59 ∷ t)))))

pub mux_text : (i w s a b : ℕ) → line_text (mux_slots i) (codes "\n") (i ∷ s ∷ a ∷ b ∷ []) ≡ driver_of i w [] (Mux s a b)
mux_text i w s a b =
    mux_parts (codes "  assign ") (codes "n") (codes "= ") (codes "? ") (codes ": ") (codes "\n") (decimal i) (decimal s) (decimal a) (decimal b)

gate_parts : (p n e q c z t i s a w : List ℕ)
    → (((p ++ n) ++ (i ++ 32 ∷ [])) ++ (((e ++ n) ++ (s ++ 32 ∷ [])) ++ (((q ++ n) ++ (a ++ 32 ∷ [])) ++ ((c ++ (w ++ 39 ∷ [])) ++ [])))) ++ (z ++ 59 ∷ t)
    ≡ (((p ++ (n ++ i)) ++ 32 ∷ e) ++ (((((n ++ s) ++ 32 ∷ q) ++ (n ++ a)) ++ 32 ∷ c) ++ (w ++ 39 ∷ z))) ++ 59 ∷ t
gate_parts p n e q c z t i s a w =
    flat_more p n i (((e ++ n) ++ (s ++ 32 ∷ [])) ++ (((q ++ n) ++ (a ++ 32 ∷ [])) ++ ((c ++ (w ++ 39 ∷ [])) ++ []))) (z ++ 59 ∷ t) 32
    ∙ (ap (λ more. p ++ (n ++ (i ++ 32 ∷ more)))
    (flat_more e n s (((q ++ n) ++ (a ++ 32 ∷ [])) ++ ((c ++ (w ++ 39 ∷ [])) ++ [])) (z ++ 59 ∷ t) 32
    ∙ ap (λ more. e ++ (n ++ (s ++ 32 ∷ more))) (flat_more q n a ((c ++ (w ++ 39 ∷ [])) ++ []) (z ++ 59 ∷ t) 32 ∙ ap (λ more. q ++ (n ++ (a ++ 32 ∷ more))) (flat_one c w [] (z ++ 59 ∷ t) 39)))
    ∙ sym (flat_head p n i e (((((n ++ s) ++ 32 ∷ q) ++ (n ++ a)) ++ 32 ∷ c) ++ (w ++ 39 ∷ z)) t ∙ ap (λ more. p ++ (n ++ (i ++ 32 ∷ (e ++ more)))) (flat_choice n s q a c (w ++ 39 ∷ z) t ∙ ap (λ more. n ++ (s ++ 32 ∷ (q ++ (n ++ (a ++ 32 ∷ (c ++ more)))))) (append_assoc w (39 ∷ z) (59 ∷ t)))))

zero_text : codes "0" ≡ decimal 0
zero_text = sym (decimal_digit 0 (omega arith))

pub gate_text : (i w s a : ℕ) → line_text (gate_slots i w) (codes "d0;\n") (i ∷ s ∷ a ∷ w ∷ []) ≡ driver_of i w [] (Gate s a)
gate_text i w s a =
    let ns : List ℕ = i ∷ s ∷ a ∷ w ∷ [] in
    let zero : line_text (gate_slots i w) (codes "d0;\n") ns ≡ line_text (gate_slots i w) (codes "d" ++ (decimal 0 ++ codes ";\n")) ns =
    λ j. line_text (gate_slots i w) (codes "d" ++ (zero_text j ++ codes ";\n")) ns in
    let last : decimal w ++ 39 ∷ (codes "d" ++ decimal 0) ≡ (decimal w ++ 39 ∷ codes "d") ++ decimal 0 = sym (append_assoc (decimal w) (39 ∷ codes "d") (decimal 0)) in
    zero
    ∙ (gate_parts (codes "  assign ") (codes "n") (codes "= ") (codes "? ") (codes ": ") (codes "d" ++ decimal 0) (codes "\n") (decimal i) (decimal s) (decimal a) (decimal w)
    ∙ ap (λ value. codes "  assign " ++ (codes "n" ++ decimal i) ++ codes " = " ++ (codes "n" ++ decimal s ++ codes " ? " ++ (codes "n" ++ decimal a) ++ codes " : " ++ value) ++ codes ";\n") last)

-- what stands before the value of a register, in one
flat_reset : (p n i e w d z s rest : List ℕ)
    → (p ++ (n ++ i) ++ 32 ∷ e ++ (w ++ 39 ∷ d ++ z)) ++ (59 ∷ (s ++ rest)) ≡ p ++ (n ++ (i ++ 32 ∷ (e ++ (w ++ 39 ∷ (d ++ (z ++ 59 ∷ (s ++ rest)))))))
flat_reset p n i e w d z s rest =
    append_assoc (p ++ (n ++ i) ++ 32 ∷ e) (w ++ 39 ∷ d ++ z) (59 ∷ (s ++ rest))
    ∙ (append_assoc (p ++ (n ++ i)) (32 ∷ e) ((w ++ 39 ∷ d ++ z) ++ 59 ∷ (s ++ rest))
    ∙ (append_assoc p (n ++ i) (32 ∷ (e ++ ((w ++ 39 ∷ d ++ z) ++ 59 ∷ (s ++ rest))))
    ∙ (ap (λ more. p ++ more) (append_assoc n i (32 ∷ (e ++ ((w ++ 39 ∷ d ++ z) ++ 59 ∷ (s ++ rest)))))
    ∙ ap (λ more. p ++ (n ++ (i ++ 32 ∷ (e ++ more)))) (append_assoc (w ++ 39 ∷ d) z (59 ∷ (s ++ rest)) ∙ append_assoc w (39 ∷ d) (z ++ 59 ∷ (s ++ rest))))))

flat_after : (front s n i e a t : List ℕ)
    → (front ++ 59 ∷ s ++ (n ++ i) ++ 32 ∷ e ++ (n ++ a)) ++ 59 ∷ t ≡ front ++ (59 ∷ (s ++ (n ++ (i ++ 32 ∷ (e ++ (n ++ (a ++ 59 ∷ t)))))))
flat_after front s n i e a t =
    append_assoc (front ++ 59 ∷ s ++ (n ++ i) ++ 32 ∷ e) (n ++ a) (59 ∷ t)
    ∙ (append_assoc (front ++ 59 ∷ s ++ (n ++ i)) (32 ∷ e) ((n ++ a) ++ 59 ∷ t)
    ∙ (append_assoc (front ++ 59 ∷ s) (n ++ i) (32 ∷ (e ++ ((n ++ a) ++ 59 ∷ t)))
    ∙ (append_assoc front (59 ∷ s) ((n ++ i) ++ 32 ∷ (e ++ ((n ++ a) ++ 59 ∷ t)))
    ∙ ap (λ more. front ++ 59 ∷ (s ++ more)) (append_assoc n i (32 ∷ (e ++ ((n ++ a) ++ 59 ∷ t))) ∙ ap (λ more. n ++ (i ++ 32 ∷ (e ++ more))) (append_assoc n a (59 ∷ t))))))

flat_else : (d z s n i rest t : List ℕ) → (((d ++ z ++ 59 ∷ s ++ n) ++ (i ++ 32 ∷ [])) ++ rest) ++ t ≡ d ++ (z ++ 59 ∷ (s ++ (n ++ (i ++ 32 ∷ (rest ++ t)))))
flat_else d z s n i rest t =
    flat_more (d ++ z ++ 59 ∷ s) n i rest t 32
    ∙ (append_assoc (d ++ z) (59 ∷ s) (n ++ (i ++ 32 ∷ (rest ++ t))) ∙ append_assoc d z (59 ∷ (s ++ (n ++ (i ++ 32 ∷ (rest ++ t))))))

reg_parts : (p n e d z s t i w a : List ℕ)
    → (((p ++ n) ++ (i ++ 32 ∷ [])) ++ ((e ++ (w ++ 39 ∷ [])) ++ (((d ++ z ++ 59 ∷ s ++ n) ++ (i ++ 32 ∷ [])) ++ (((e ++ n) ++ (a ++ 59 ∷ [])) ++ [])))) ++ t
    ≡ (p ++ (n ++ i) ++ 32 ∷ e ++ (w ++ 39 ∷ d ++ z) ++ 59 ∷ s ++ (n ++ i) ++ 32 ∷ e ++ (n ++ a)) ++ 59 ∷ t
reg_parts p n e d z s t i w a =
    flat_more p n i ((e ++ (w ++ 39 ∷ [])) ++ (((d ++ z ++ 59 ∷ s ++ n) ++ (i ++ 32 ∷ [])) ++ (((e ++ n) ++ (a ++ 59 ∷ [])) ++ []))) t 32
    ∙ (ap (λ more. p ++ (n ++ (i ++ 32 ∷ more)))
    (flat_one e w (((d ++ z ++ 59 ∷ s ++ n) ++ (i ++ 32 ∷ [])) ++ (((e ++ n) ++ (a ++ 59 ∷ [])) ++ [])) t 39
    ∙ ap (λ more. e ++ (w ++ 39 ∷ more)) (flat_else d z s n i (((e ++ n) ++ (a ++ 59 ∷ [])) ++ []) t
    ∙ ap (λ more. d ++ (z ++ 59 ∷ (s ++ (n ++ (i ++ 32 ∷ more))))) (flat_last e n a t)))
    ∙ sym (flat_after (p ++ (n ++ i) ++ 32 ∷ e ++ (w ++ 39 ∷ d ++ z)) s n i e a t ∙ flat_reset p n i e w d z s (n ++ (i ++ 32 ∷ (e ++ (n ++ (a ++ 59 ∷ t)))))))

-- the slots of a register, with the digits of its value in reset
abbrev reset_slots : ℕ → ℕ → List ℕ → List Slot'
reset_slots i w zero =
    exactly (codes "  always @(posedge clk) if (rst) n") i 32 ∷ exactly (codes "<= ") w 39 ∷ exactly (codes "d" ++ zero ++ codes "; else " ++ codes "n") i 32 ∷ net_behind (codes "<= n") 59 ∷ []

pub reg_text : (i w a : ℕ) → line_text (reg_slots i w) (codes "\n") (i ∷ w ∷ i ∷ a ∷ []) ≡ driver_of i w [] (Reg a)
reg_text i w a =
    let ns : List ℕ = i ∷ w ∷ i ∷ a ∷ [] in
    let known = reg_parts (codes "  always @(posedge clk) if (rst) ") (codes "n") (codes "<= ") (codes "d") (decimal 0) (codes " else ") (codes "\n") (decimal i) (decimal w) (decimal a) in
    let zero : line_text (reg_slots i w) (codes "\n") ns ≡ line_text (reset_slots i w (decimal 0)) (codes "\n") ns = λ j. line_text (reset_slots i w (zero_text j)) (codes "\n") ns in
    zero ∙ known
