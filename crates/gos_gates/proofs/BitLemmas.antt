-- The gates of a bit show what they are to show, and so do its literal and the one that is handed on.
use Rattle.std.specs.Prelude.{◌≡◌, ℕ, ◌+◌, Bool, false, not, ◌&&◌, List, [], ◌∷◌, ◌++◌, length, get_or}
use Rattle.std.proofs.Common.{arith, refl, sym, ap, ◌∙◌, append_assoc, length-append}
use Rattle.std.proofs.lemmas.List.{append-nil}
use Rattle.gos_gates.specs.Gates.{Bits, shown_by, after_gates}
use Rattle.gos_gates.specs.inner.Adding.{differ}
use Rattle.gos_gates.specs.declared.kinds.Kind.{Kind}
use Rattle.gos_gates.specs.declared.kinds.Kind.TheVariants.{And, Or, Gate, Xor, Mux, Add, Sub, Eq, Less}
use Rattle.gos_gates.specs.Lowered.{complement, gate_of}
use Rattle.gos_gates.specs.inner.Layout.{plain, turned, neither_gates, differ_gates, add_gates, less_gates, bit_gates, bit_literal, bit_carry, bit_value, carry_value}
use Rattle.gos_gates.specs.inner.Shown.{neither_shown, differ_shown, add_shown, less_shown, bit_shown}
use Rattle.gos_gates.specs.inner.Standing.{Holds}
use Rattle.gos_gates.proofs.GateLemmas.{shown_complement, later_plain, later_turned, first_turned, first_plain, gate_more}

pub holds_other : (bits : Bits) (l : ℕ) (x : Bool) → Holds bits l x → Holds bits (complement l) (not x)
holds_other bits l x h done = shown_complement (bits ++ done) l ∙ ap not (h done)

neither : (bits : Bits) (v p q r s : ℕ) (a b c d : Bool) (gs : List (ℕ × ℕ)) → v ≡ length bits → Holds bits p a → Holds bits q b → Holds bits r c → Holds bits s d
    → after_gates (neither_gates v p q r s ++ gs) bits ≡ after_gates gs (bits ++ neither_shown (a && b) (c && d))
neither bits v p q r s a b c d gs e hp hq hr hs =
    let start : bits ++ [] ≡ bits = append-nil bits in
    let one : after_gates (gate_of p q ∷ gate_of r s ∷ gate_of (turned v) (turned (v + 1)) ∷ gs) (bits ++ []) ≡ after_gates (gate_of r s ∷ gate_of (turned v) (turned (v + 1)) ∷ gs) (bits ++ (a && b) ∷ []) =
    gate_more bits [] (gate_of r s ∷ gate_of (turned v) (turned (v + 1)) ∷ gs) p q a b (hp []) (hq []) in
    let two = gate_more bits ((a && b) ∷ []) (gate_of (turned v) (turned (v + 1)) ∷ gs) r s c d (hr _) (hs _) in
    let three = gate_more bits ((a && b) ∷ (c && d) ∷ []) gs (turned v) (turned (v + 1)) (not (a && b)) (not (c && d)) (first_turned bits _ v e) (later_turned bits _ v 1 e) in
    ap (after_gates (neither_gates v p q r s ++ gs)) (sym start) ∙ (one ∙ (two ∙ three))

differs : (bits : Bits) (v a b : ℕ) (x y : Bool) (gs : List (ℕ × ℕ)) → v ≡ length bits → Holds bits a x → Holds bits b y
    → after_gates (differ_gates v a b ++ gs) bits ≡ after_gates gs (bits ++ differ_shown x y)
differs bits v a b x y gs e ha hb = neither bits v a b (complement a) (complement b) x y (not x) (not y) gs e ha hb (holds_other bits a x ha) (holds_other bits b y hb)

-- what holds goes on holding behind more gates
pub holds_on : (bits more : Bits) (l : ℕ) (x : Bool) → Holds bits l x → Holds (bits ++ more) l x
holds_on bits more l x h done = ap (λ (b : Bits). shown_by b l) (append_assoc bits more done) ∙ h (more ++ done)

holds_plain : (bits more : Bits) (v i : ℕ) (x : Bool) → v ≡ length bits → ((done : Bits) → get_or (more ++ done) i false ≡ x) → Holds (bits ++ more) (plain (v + i)) x
holds_plain bits more v i x e is done = ap (λ (b : Bits). shown_by b (plain (v + i))) (append_assoc bits more done) ∙ (later_plain bits (more ++ done) v i e ∙ is done)

holds_turned : (bits more : Bits) (v i : ℕ) (x : Bool) → v ≡ length bits → ((done : Bits) → not (get_or (more ++ done) i false) ≡ x) → Holds (bits ++ more) (turned (v + i)) x
holds_turned bits more v i x e is done = ap (λ (b : Bits). shown_by b (turned (v + i))) (append_assoc bits more done) ∙ (later_turned bits (more ++ done) v i e ∙ is done)

holds_first_plain : (bits more : Bits) (v : ℕ) (x : Bool) → v ≡ length bits → ((done : Bits) → get_or (more ++ done) 0 false ≡ x) → Holds (bits ++ more) (plain v) x
holds_first_plain bits more v x e is done = ap (λ (b : Bits). shown_by b (plain v)) (append_assoc bits more done) ∙ (first_plain bits (more ++ done) v e ∙ is done)

holds_first_turned : (bits more : Bits) (v : ℕ) (x : Bool) → v ≡ length bits → ((done : Bits) → not (get_or (more ++ done) 0 false) ≡ x) → Holds (bits ++ more) (turned v) x
holds_first_turned bits more v x e is done = ap (λ (b : Bits). shown_by b (turned v)) (append_assoc bits more done) ∙ (first_turned bits (more ++ done) v e ∙ is done)

one : (bits : Bits) (a b : ℕ) (x y : Bool) (gs : List (ℕ × ℕ)) → Holds bits a x → Holds bits b y
    → after_gates (gate_of a b ∷ gs) bits ≡ after_gates gs (bits ++ (x && y) ∷ [])
one bits a b x y gs ha hb = ap (after_gates (gate_of a b ∷ gs)) (sym (append-nil bits)) ∙ gate_more bits [] gs a b x y (ha []) (hb [])

adder : (bits : Bits) (v c a b : ℕ) (z x y : Bool) (gs : List (ℕ × ℕ)) → v ≡ length bits → Holds bits c z → Holds bits a x → Holds bits b y
    → after_gates (add_gates v c a b ++ gs) bits ≡ after_gates gs (bits ++ add_shown z x y)
adder bits v c a b z x y gs e hc ha hb =
    let last : ℕ × ℕ = gate_of (turned v) (turned (v + 3)) in
    let first : after_gates (add_gates v c a b ++ gs) bits ≡ after_gates (differ_gates (v + 3) (plain (v + 2)) c ++ last ∷ gs) (bits ++ differ_shown x y) =
    differs bits v a b x y (differ_gates (v + 3) (plain (v + 2)) c ++ last ∷ gs) e ha hb in
    let long : v + 3 ≡ length (bits ++ differ_shown x y) = omega (arith, e, length-append bits (differ_shown x y)) in
    let second : after_gates (differ_gates (v + 3) (plain (v + 2)) c ++ last ∷ gs) (bits ++ differ_shown x y) ≡ after_gates (last ∷ gs) ((bits ++ differ_shown x y) ++ differ_shown (differ x y) z) =
    differs (bits ++ differ_shown x y) (v + 3) (plain (v + 2)) c (differ x y) z (last ∷ gs) long
    (holds_plain bits (differ_shown x y) v 2 (differ x y) e (λ done. refl)) (holds_on bits (differ_shown x y) c z hc) in
    let joined : after_gates (last ∷ gs) ((bits ++ differ_shown x y) ++ differ_shown (differ x y) z) ≡ after_gates (last ∷ gs) (bits ++ (differ_shown x y ++ differ_shown (differ x y) z)) =
    ap (after_gates (last ∷ gs)) (append_assoc bits (differ_shown x y) (differ_shown (differ x y) z)) in
    let third : after_gates (last ∷ gs) (bits ++ (differ_shown x y ++ differ_shown (differ x y) z)) ≡ after_gates gs (bits ++ add_shown z x y) =
    gate_more bits (differ_shown x y ++ differ_shown (differ x y) z) gs (turned v) (turned (v + 3)) (not (x && y)) (not (differ x y && z))
    (first_turned bits _ v e) (later_turned bits _ v 3 e) in
    first ∙ (second ∙ (joined ∙ third))

less : (bits : Bits) (v c a b : ℕ) (z x y : Bool) (gs : List (ℕ × ℕ)) → v ≡ length bits → Holds bits c z → Holds bits a x → Holds bits b y
    → after_gates (less_gates v c a b ++ gs) bits ≡ after_gates gs (bits ++ less_shown z x y)
less bits v c a b z x y gs e hc ha hb =
    let g4 : ℕ × ℕ = gate_of (turned v) (turned (v + 2)) in
    let g3 : ℕ × ℕ = gate_of (turned (v + 1)) c in
    let g2 : ℕ × ℕ = gate_of a (complement b) in
    let p : Bool = not x && y in
    let q : Bool = x && not y in
    let r : Bool = not q && z in
    let first : after_gates (gate_of (complement a) b ∷ (g2 ∷ g3 ∷ g4 ∷ gs)) bits ≡ after_gates (g2 ∷ g3 ∷ g4 ∷ gs) (bits ++ p ∷ []) =
    one bits (complement a) b (not x) y (g2 ∷ g3 ∷ g4 ∷ gs) (holds_other bits a x ha) hb in
    let second : after_gates (g2 ∷ g3 ∷ g4 ∷ gs) (bits ++ p ∷ []) ≡ after_gates (g3 ∷ g4 ∷ gs) (bits ++ p ∷ q ∷ []) =
    gate_more bits (p ∷ []) (g3 ∷ g4 ∷ gs) a (complement b) x (not y) (ha _) (holds_other bits b y hb _) in
    let third : after_gates (g3 ∷ g4 ∷ gs) (bits ++ p ∷ q ∷ []) ≡ after_gates (g4 ∷ gs) (bits ++ p ∷ q ∷ r ∷ []) =
    gate_more bits (p ∷ q ∷ []) (g4 ∷ gs) (turned (v + 1)) c (not q) z (later_turned bits _ v 1 e) (hc _) in
    let fourth : after_gates (g4 ∷ gs) (bits ++ p ∷ q ∷ r ∷ []) ≡ after_gates gs (bits ++ less_shown z x y) =
    gate_more bits (p ∷ q ∷ r ∷ []) gs (turned v) (turned (v + 2)) (not p) (not r) (first_turned bits _ v e) (later_turned bits _ v 2 e) in
    first ∙ (second ∙ (third ∙ fourth))

-- the gates of a bit, before others
pub bit_more : (k : Kind) (bits : Bits) (v c a b : ℕ) (z x y : Bool) (gs : List (ℕ × ℕ)) → v ≡ length bits → Holds bits c z → Holds bits a x → Holds bits b y
    → after_gates (bit_gates k v c a b ++ gs) bits ≡ after_gates gs (bits ++ bit_shown k z x y)
bit_more And bits v c a b z x y gs e hc ha hb = one bits a b x y gs ha hb
bit_more Or bits v c a b z x y gs e hc ha hb = one bits (complement a) (complement b) (not x) (not y) gs (holds_other bits a x ha) (holds_other bits b y hb)
bit_more Gate bits v c a b z x y gs e hc ha hb = one bits c a z x gs hc ha
bit_more Xor bits v c a b z x y gs e hc ha hb = differs bits v a b x y gs e ha hb
bit_more Mux bits v c a b z x y gs e hc ha hb = neither bits v c a (complement c) b z x (not z) y gs e hc ha (holds_other bits c z hc) hb
bit_more Add bits v c a b z x y gs e hc ha hb = adder bits v c a b z x y gs e hc ha hb
bit_more Sub bits v c a b z x y gs e hc ha hb = adder bits v c a (complement b) z x (not y) gs e hc ha (holds_other bits b y hb)
bit_more Eq bits v c a b z x y gs e hc ha hb =
    let first : after_gates (differ_gates v a b ++ gate_of c (turned (v + 2)) ∷ gs) bits ≡ after_gates (gate_of c (turned (v + 2)) ∷ gs) (bits ++ differ_shown x y) =
    differs bits v a b x y (gate_of c (turned (v + 2)) ∷ gs) e ha hb in
    first ∙ gate_more bits (differ_shown x y) gs c (turned (v + 2)) z (not (differ x y)) (hc _) (later_turned bits _ v 2 e)
bit_more Less bits v c a b z x y gs e hc ha hb = less bits v c a b z x y gs e hc ha hb

-- its literal
pub bit_holds : (k : Kind) (bits : Bits) (v : ℕ) (z x y : Bool) → v ≡ length bits → Holds (bits ++ bit_shown k z x y) (bit_literal k v) (bit_value k z x y)
bit_holds And bits v z x y e = holds_first_plain bits (bit_shown And z x y) v _ e (λ done. refl)
bit_holds Or bits v z x y e = holds_first_turned bits (bit_shown Or z x y) v _ e (λ done. refl)
bit_holds Gate bits v z x y e = holds_first_plain bits (bit_shown Gate z x y) v _ e (λ done. refl)
bit_holds Xor bits v z x y e = holds_plain bits (bit_shown Xor z x y) v 2 _ e (λ done. refl)
bit_holds Mux bits v z x y e = holds_turned bits (bit_shown Mux z x y) v 2 _ e (λ done. refl)
bit_holds Add bits v z x y e = holds_plain bits (bit_shown Add z x y) v 5 _ e (λ done. refl)
bit_holds Sub bits v z x y e = holds_plain bits (bit_shown Sub z x y) v 5 _ e (λ done. refl)
bit_holds Eq bits v z x y e = holds_plain bits (bit_shown Eq z x y) v 3 _ e (λ done. refl)
bit_holds Less bits v z x y e = holds_turned bits (bit_shown Less z x y) v 3 _ e (λ done. refl)

-- and the one that is handed on
pub carry_holds : (k : Kind) (bits : Bits) (v c : ℕ) (z x y : Bool) → v ≡ length bits → Holds bits c z → Holds (bits ++ bit_shown k z x y) (bit_carry k v c) (carry_value k z x y)
carry_holds And bits v c z x y e hc = holds_on bits _ c z hc
carry_holds Or bits v c z x y e hc = holds_on bits _ c z hc
carry_holds Gate bits v c z x y e hc = holds_on bits _ c z hc
carry_holds Xor bits v c z x y e hc = holds_on bits _ c z hc
carry_holds Mux bits v c z x y e hc = holds_on bits _ c z hc
carry_holds Add bits v c z x y e hc = holds_turned bits (bit_shown Add z x y) v 6 _ e (λ done. refl)
carry_holds Sub bits v c z x y e hc = holds_turned bits (bit_shown Sub z x y) v 6 _ e (λ done. refl)
carry_holds Eq bits v c z x y e hc = holds_plain bits (bit_shown Eq z x y) v 3 _ e (λ done. refl)
carry_holds Less bits v c z x y e hc = holds_turned bits (bit_shown Less z x y) v 3 _ e (λ done. refl)
