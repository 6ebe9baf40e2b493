-- Inputs and registers: with a variable for each bit, their literals show the bits that they are given.
use Rattle.std.specs.Prelude.{◌≡◌, ℕ, suc, ◌+◌, ◌<◌, ◌⊎◌, List, [], ◌∷◌, ◌++◌, length}
use Rattle.std.specs.List.{AllByRecursion}
use Rattle.std.proofs.Common.{arith, refl, sym, ap, subst, inl, inr, ◌∙◌, append_assoc, length-append, get_or-set_same, get_or-set_other}
use Rattle.std.proofs.lemmas.List.{length-set}
use Rattle.gos_netlist.specs.Nets.{Cell}
use Rattle.gos_netlist.specs.Settling.{Numbers, at}
use Rattle.gos_gates.specs.Gates.{Bits, shown_by}
use Rattle.gos_gates.specs.Bits.{bits_of}
use Rattle.gos_gates.specs.Lowered.{width_of, bits_at, literals_from}
use Rattle.gos_gates.specs.inner.Layout.{plain}
use Rattle.gos_gates.specs.inner.Laying.{Laid, literals_of, with_source, with_sources}
use Rattle.gos_gates.specs.inner.Standing.{Holds, HoldAll, Among}
use Rattle.gos_gates.proofs.GateLemmas.{first_plain}
use Rattle.gos_gates.proofs.KindLemmas.{length_bits_of}

-- variables in a row show the bits that stand there
pub row_holds : (pre b post : Bits) (v : ℕ) → v ≡ length pre → HoldAll (pre ++ (b ++ post)) (literals_from v (length b)) b
row_holds pre [] post v e = tt
row_holds pre (x ∷ b) post v e =
    let first : Holds (pre ++ (x ∷ (b ++ post))) (plain v) x = λ done.
    ap (λ (bits : Bits). shown_by bits (plain v)) (append_assoc pre (x ∷ (b ++ post)) done) ∙ first_plain pre (x ∷ (b ++ post) ++ done) v e in
    let long : suc v ≡ length (pre ++ x ∷ []) = omega (arith, e, length-append pre (x ∷ [])) in
    let P : Bits → Type 0 = λ bits. HoldAll bits (literals_from (suc v) (length b)) b in
    (first, subst P (append_assoc pre (x ∷ []) (b ++ post)) (row_holds (pre ++ x ∷ []) b post (suc v) long))

-- no net stands twice
abbrev pub NoTwice : List ℕ → Type 0
NoTwice [] = Unit {0}
NoTwice (n ∷ ns) = (Among n ns → ⊥) × NoTwice ns

-- what comes of giving nets their variables
pub record SourcesShow (cells : List Cell) (x : Numbers) (ns : List ℕ) (s : Laid) (pre post : Bits) : Type 0 where
  pub show : (m : ℕ) → Among m ns → HoldAll (pre ++ (bits_at cells ns x ++ post)) (literals_of (with_sources cells ns s) m) (bits_of (width_of cells m) (at x m))
  pub others : (m : ℕ) → (Among m ns → ⊥) → literals_of (with_sources cells ns s) m ≡ literals_of s m
  pub base : (with_sources cells ns s).base ≡ length (pre ++ bits_at cells ns x)
  pub nets : length (with_sources cells ns s).nets ≡ length s.nets
  pub gates : (with_sources cells ns s).gates ≡ s.gates

pub sources_show : (cells : List Cell) (x : Numbers) (ns : List ℕ) (s : Laid) (pre post : Bits) → s.base ≡ length pre → NoTwice ns → AllByRecursion (λ n. n < length s.nets) ns → SourcesShow cells x ns s pre post
sources_show cells x [] s pre post e apart low =
    record {
      show = λ m h. absurd h;
      others = λ m h. refl;
      base = omega (arith, e, length-append pre []);
      nets = refl;
      gates = refl;
    }
sources_show cells x (n ∷ ns) s pre post e apart low =
    let w : ℕ = width_of cells n in
    let b : Bits = bits_of w (at x n) in
    let tail : Bits = bits_at cells ns x in
    let size : length b ≡ w = length_bits_of w (at x n) in
    let long : s.base + w ≡ length (pre ++ b) = omega (arith, e, length-append pre b, size) in
    let rest : SourcesShow cells x ns (with_source cells n s) (pre ++ b) post = sources_show cells x ns (with_source cells n s) (pre ++ b) post long apart.1 (still ns low.1) in
    let whole : (pre ++ b) ++ (tail ++ post) ≡ pre ++ ((b ++ tail) ++ post) = append_assoc pre b (tail ++ post) ∙ ap (λ (bits : Bits). pre ++ bits) (sym (append_assoc b tail post)) in
    record {
      show = show rest size whole;
      others = λ m h. rest.others m (λ later. h (inr later)) ∙ get_or-set_other s.nets n m (literals_from s.base w) [] (λ same. h (inl same));
      base = rest.base ∙ ap length (append_assoc pre b tail);
      nets = rest.nets ∙ length-set s.nets n (literals_from s.base w);
      gates = rest.gates;
    }
  where
    still : (ms : List ℕ) → AllByRecursion (λ m. m < length s.nets) ms → AllByRecursion (λ m. m < length (with_source cells n s).nets) ms
    still [] h = tt
    still (m ∷ ms) h = (omega (arith, h.0, length-set s.nets n (literals_from s.base (width_of cells n))), still ms h.1)

    show : SourcesShow cells x ns (with_source cells n s) (pre ++ bits_of (width_of cells n) (at x n)) post → length (bits_of (width_of cells n) (at x n)) ≡ width_of cells n
        → (pre ++ bits_of (width_of cells n) (at x n)) ++ (bits_at cells ns x ++ post) ≡ pre ++ ((bits_of (width_of cells n) (at x n) ++ bits_at cells ns x) ++ post)
        → (m : ℕ) → (m ≡ n) ⊎ Among m ns
        → HoldAll (pre ++ ((bits_of (width_of cells n) (at x n) ++ bits_at cells ns x) ++ post)) (literals_of (with_sources cells ns (with_source cells n s)) m) (bits_of (width_of cells m) (at x m))
    show rest size whole m (inr later) =
        let P : Bits → Type 0 = λ bits. HoldAll bits (literals_of (with_sources cells ns (with_source cells n s)) m) (bits_of (width_of cells m) (at x m)) in
        subst P whole (rest.show m later)
    show rest size whole m (inl same) =
        let b : Bits = bits_of (width_of cells n) (at x n) in
        let own : literals_of (with_sources cells ns (with_source cells n s)) n ≡ literals_from s.base (length b) =
        rest.others n apart.0 ∙ (get_or-set_same s.nets n (literals_from s.base (width_of cells n)) [] low.0 ∙ ap (literals_from s.base) (sym size)) in
        let P : Bits → Type 0 = λ bits. HoldAll bits (literals_from s.base (length b)) b in
        let Q : List ℕ → Type 0 = λ ls. HoldAll (pre ++ ((b ++ bits_at cells ns x) ++ post)) ls b in
        let R : ℕ → Type 0 = λ k. HoldAll (pre ++ ((b ++ bits_at cells ns x) ++ post)) (literals_of (with_sources cells ns (with_source cells n s)) k) (bits_of (width_of cells k) (at x k)) in
        subst R (sym same)
        (subst Q (sym own)
        (subst P (ap (λ (bits : Bits). pre ++ bits) (sym (append_assoc b (bits_at cells ns x) post))) (row_holds pre b (bits_at cells ns x ++ post) s.base e)))
