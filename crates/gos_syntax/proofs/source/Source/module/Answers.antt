use Rattle.std.proofs.Common.{◌≡◌, ℕ, ◌+◌, ◌<◌, ◌∙◌, ap, sym, subst}
use Rattle.std.proofs.lemmas.List.{length-map}
use Rattle.gos_types.specs.Types.{type_of}
use Rattle.gos_syntax.specs.Items.{item_of, seen, span_of}
use Rattle.gos_syntax.specs.declared.terms.Term as program
use Rattle.gos_syntax.specs.Grammar.{Derives, Term, IsType, Whole}
use Rattle.gos_syntax.proofs.ItemLemmas.{none_there}
use Rattle.gos_syntax.proofs.LeadsLemmas.{leads_then, leads_part, stops_after, stops_at}
use Rattle.gos_syntax.proofs.ModuleRuleLemmas.{export_rule, after_export, after_body}
use Rattle.gos_syntax.proofs.BeginningLemmas.{module_refused, left_stops}
use Rattle.gos_syntax.proofs.source.Source.module.Goals as goal

pub returns-in_err-imports-clause-refused : goal.returns-in_err-imports-clause-refused
returns-in_err-imports-clause-refused c =
    module_refused (seen c.args.self.now) c.from_residual.result c.from_residual.ensures.1 c.in_err-imports.ensures.refused

pub returns-in_err-body_at-clause-refused : goal.returns-in_err-body_at-clause-refused
returns-in_err-body_at-clause-refused c =
    let leads = leads_then c.in_ok-imports.ensures.read (export_rule (seen c.args.self.now) c.in_ok-imports.at c.in_ok-imports.ensures.last) in
    module_refused (seen c.args.self.now) c.from_residual-in_err-body_at.result c.from_residual-in_err-body_at.ensures.1
    (stops_after leads (stops_at c.in_err-body_at.ensures.refused))

pub returns-in_err-body-clause-refused : goal.returns-in_err-body-clause-refused
returns-in_err-body-clause-refused c =
    let leads = after_export c.in_ok-imports.ensures.read c.in_ok-imports.ensures.last c.in_ok-body_at.ensures.word c.in_ok-body_at.ensures.next in
    module_refused (seen c.args.self.now) c.from_residual-in_err-body.result c.from_residual-in_err-body.ensures.1
    (stops_after leads (stops_at c.in_err-body.ensures.refused))

pub returns-in_err-result_at-clause-refused : goal.returns-in_err-result_at-clause-refused
returns-in_err-result_at-clause-refused c =
    let leads = after_export c.in_ok-imports.ensures.read c.in_ok-imports.ensures.last c.in_ok-body_at.ensures.word c.in_ok-body_at.ensures.next in
    module_refused (seen c.args.self.now) c.from_residual-in_err-result_at.result c.from_residual-in_err-result_at.ensures.1
    (stops_after (leads_then leads (leads_part c.in_ok-body.ensures.read.read)) (stops_at c.in_err-result_at.ensures.refused))

pub returns-in_err-result-clause-refused : goal.returns-in_err-result-clause-refused
returns-in_err-result-clause-refused c =
    let leads = after_export c.in_ok-imports.ensures.read c.in_ok-imports.ensures.last c.in_ok-body_at.ensures.word c.in_ok-body_at.ensures.next in
    let ended = after_body leads c.in_ok-body.ensures.read.read c.in_ok-result_at.ensures.sign c.in_ok-result_at.ensures.next in
    module_refused (seen c.args.self.now) c.from_residual-in_err-result.result c.from_residual-in_err-result.ensures.1
    (stops_after ended (stops_at c.in_err-result.ensures.refused))

pub returns-then-end-self-clause-refused : goal.returns-then-end-self-clause-refused
returns-then-end-self-clause-refused c =
    let leads = after_export c.in_ok-imports.ensures.read c.in_ok-imports.ensures.last c.in_ok-body_at.ensures.word c.in_ok-body_at.ensures.next in
    let ended = after_body leads c.in_ok-body.ensures.read.read c.in_ok-result_at.ensures.sign c.in_ok-result_at.ensures.next in
    let below = subst (λ (n : ℕ). c.in_ok-result.end < n) (sym (length-map c.args.self.now.tokens.now (item_of c.args.self.now.text.now))) c.if-end-self.true in
    left_stops (seen c.args.self.now) c.in_ok-result.end below (leads_then ended c.in_ok-result.ensures.read.read)

pub returns-clause-derived : goal.returns-clause-derived
returns-clause-derived c =
    let body_at : c.in_ok-body_at.body_at ≡ c.in_ok-imports.at + 1 = c.in_ok-body_at.ensures.next in
    let result_at : c.in_ok-result_at.result_at ≡ c.in_ok-body.end + 1 = c.in_ok-result_at.ensures.next in
    record {
      end = c.in_ok-result.end;
      whole =
          record {
            exported = c.in_ok-imports.at;
            imports = c.in_ok-imports.ensures.imports;
            word = c.in_ok-body_at.ensures.word;
            colon = c.in_ok-body.end;
            body =
                subst (λ (term : program.Term). Derives (seen c.args.self.now) Term (c.in_ok-imports.at + 1) c.in_ok-body.end term) (sym c.into_inner.ensures)
                (subst (λ (n : ℕ). Derives (seen c.args.self.now) Term n c.in_ok-body.end c.in_ok-body.body.value) body_at c.in_ok-body.ensures.read.derived);
            sign = c.in_ok-result_at.ensures.sign;
            result = subst (λ (n : ℕ). IsType (seen c.args.self.now) Whole n c.in_ok-result.end (type_of c.in_ok-result.result)) result_at c.in_ok-result.ensures.read.derived;
            result_span = c.span.ensures ∙ ap (λ (n : ℕ). span_of (seen c.args.self.now) n c.in_ok-result.end) result_at;
          };
      no_more = none_there c.args.self.now.text.now c.args.self.now.tokens.now c.in_ok-result.end c.if-end-self.false;
    }
