use Rattle.std.proofs.Common.{ap, ◌∙◌}
use Rattle.std.specs.Option.{option_map_or}
use Rattle.plain_pair.specs.declared.answers.PlainLook.TheVariants as look
use Rattle.plain_pair.specs.Pair.{kept_of}
use Rattle.plain_pair.proofs.Looks.{looked}
use Rattle.plain_pair.proofs.pair.PlainPair.parrived.Goals as goal

pub returns-in-Some : goal.returns-in-Some
returns-in-Some c = record {
  answer = λ r st.
      let inside = rw (c.recv_parts.ensures.value, c.geometry.ensures.value) at c.if-q-recv_parts.false in
      ap (λ o. option_map_or look.NotYet o look.Arrived) c.in-Some.ensures
      ∙ looked (kept_of c.self.inside) _ _ r c.args.q c.self.view_is c.self.invariant st c.if-not-self.false inside;
}

pub returns-in-None : goal.returns-in-None
returns-in-None c = record {
  answer = λ r st.
      let inside = rw (c.recv_parts.ensures.value, c.geometry.ensures.value) at c.if-q-recv_parts.false in
      ap (λ o. option_map_or look.NotYet o look.Arrived) c.in-None.ensures
      ∙ looked (kept_of c.self.inside) _ _ r c.args.q c.self.view_is c.self.invariant st c.if-not-self.false inside;
}
