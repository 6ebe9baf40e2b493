use Rattle.std.proofs.Common.{ℕ, List, ◌∙◌, ap, inl, inr}
use Rattle.gos_lex.specs.declared.token.Token.{Token}
use Rattle.gos_syntax.specs.declared.fault.SyntaxFault.TheVariants as faults
use Rattle.gos_syntax.specs.ModuleTrees.{module_tree}
use Rattle.gos_syntax.proofs.BeforeLemmas.{unexpected_before, end_begins, whole_begins}
use Rattle.gos_syntax.proofs.source.Source.fault_before.Goals.{in-Err-At, in-Err-NoMemory, in_default-2, in_default}
use Rattle.gos_syntax.proofs.source.Source.fault_before.Goals as goal

pub returns : goal.returns
returns c =
    let text : List ℕ = c.args.self.now.text.now in
    let tokens : List Token = c.args.self.now.tokens.now in
    elim c.match-module.branch [
      | in-Err-At w ↦
          let unexpected = w.in-Err-At.ensures.refused.unexpected w.in-Err-At.at w.in-Err-At.field-0-is in
          inr (inr (
            w.in-Err-At.at,
            w.if-at-end.true,
            w.result-is ∙ ap (λ (place : ℕ). faults.Unexpected place) w.place.ensures,
            unexpected_before text tokens c.args.end w.in-Err-At.at w.if-at-end.true c.requires.within unexpected,
          ))
      | in-Err-NoMemory w ↦ inr (inl w.result-is)
      | in_default-2 w ↦
          let unexpected = w.in-Err-At.ensures.refused.unexpected w.in-Err-At.at w.in-Err-At.field-0-is in
          inl (w.result-is, end_begins text tokens c.args.end w.in-Err-At.at w.if-at-end.false unexpected)
      | in_default w ↦
          let whole = rw w.in_default.is at c.«module».ensures.derived in
          inl (w.result-is, whole_begins text tokens c.args.end (module_tree w.in_default.field-0) whole)
    ]
