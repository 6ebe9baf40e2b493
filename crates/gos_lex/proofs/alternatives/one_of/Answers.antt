use Rattle.std.proofs.Common.{◌≡◌, [], ℕ, List, length, map, get_or, subst, sym, ◌∙◌, refl, arith, Bor}
use Rattle.std.proofs.Math.ListN.{get_or-map}
use Rattle.std.proofs.lemmas.List.{length-map}
use Rattle.gos_lex.specs.Items.{TextAt, IsJust, Misses}
use Rattle.gos_lex.proofs.WordTableLemmas.{IsAmongFirst, first_word, next_word}
use Rattle.gos_lex.proofs.alternatives.one_of.Goals as goal

abbrev now_of : List (Bor (List ℕ)) → List (List ℕ)
now_of words = map (λ word. word.now) words

word_is : (words : List (Bor (List ℕ))) (k : ℕ) → get_or (now_of words) k [] ≡ (get_or words k record { ref_ptr = (0, 0); now = [] }).now
word_is words k = get_or-map (λ word. word.now) words k record { ref_ptr = (0, 0); now = [] }

pub loop-k-init : goal.loop-k-init
loop-k-init c =
    let words = c.args.words.now in
    let here = subst (λ (p : TextAt). Misses (IsJust (get_or words 0 record { ref_ptr = (0, 0); now = [] }).now) p.text p.at c.in-Err.at) (sym c.in-Err.ensures.stays) c.in-Err.ensures.wrong in
    (refl, first_word (now_of words) (get_or words 0 record { ref_ptr = (0, 0); now = [] }).now c.word.new.self.text c.word.new.self.at c.in-Err.at (word_is words 0) here)

pub loop-k-preserved : goal.loop-k-preserved
loop-k-preserved c =
    let words = c.args.words.now in
    let k = c.loop-k.k in
    let word : List ℕ = (get_or words k record { ref_ptr = (0, 0); now = [] }).now in
    let here = subst (λ (p : TextAt). Misses (IsJust word) p.text p.at c.in-Err-word.at) c.loop-k.invariant.0 c.in-Err-word.ensures.wrong in
    let place = c.further-furthest in (
      c.in-Err-word.ensures.stays ∙ c.loop-k.invariant.0,
      next_word k (now_of words) word c.word.new.self.text c.word.new.self.at c.loop-k.furthest c.in-Err-word.at place.result (word_is words k) place.ensures.at_least.0 place.ensures.at_least.1 place.ensures.either c.loop-k.invariant.1 here,
    )

pub returns-clause-wrong : goal.returns-clause-wrong
returns-clause-wrong c =
    let words = c.args.words.now in
    let all : c.loop-k.k ≡ length (now_of words) = omega (arith, c.loop-k.auto.k-end, c.loop-k-test.false, c.requires, length-map words (λ (word : Bor (List ℕ)). word.now)) in
    subst (λ (p : TextAt). Misses (IsAmongFirst (length (now_of words)) (now_of words)) p.text p.at c.loop-k.furthest) c.in-Err.ensures.stays
    (subst (λ (n : ℕ). Misses (IsAmongFirst n (now_of words)) c.word.new.self.text c.word.new.self.at c.loop-k.furthest) all c.loop-k.invariant.1)
