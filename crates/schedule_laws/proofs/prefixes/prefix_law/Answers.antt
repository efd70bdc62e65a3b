use Rattle.schedule_laws.proofs.Names.{[], ap, ◌∙◌, subst, IsLegalAfter, accepted_by, accepted_of, IsLegalAfter-front}
use Rattle.std.proofs.lemmas.List.Elements.{filter_map-append}
use Rattle.schedule_laws.proofs.prefixes.prefix_law.Goals as goal

pub returns : goal.returns
returns c = λ opening seen history front legal. (
  record {
    opens = legal.opens;
    due = IsLegalAfter-front opening [] seen front.0 (subst (IsLegalAfter opening []) front.1 legal.due);
  },
  (accepted_of front.0, ap accepted_of front.1 ∙ filter_map-append (λ e. accepted_by e.call e.reply) seen front.0),
)
