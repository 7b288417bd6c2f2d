use Rattle.std.proofs.Common.{◌∙◌, ◌<◌, ℕ, sym, subst}
use Rattle.std.proofs.lemmas.Result.{IfOk-weaker}
use Rattle.ring_table.specs.Value.{RingValue}
use Rattle.plan_around.proofs.alike.are_alike.Goals as goal

pub returns : goal.returns
returns c = IfOk-weaker c.are_puts_alike.result _ _
    (λ b all t w u m n. record {
      nodes = λ p lp i li. c.are_nodes_alike.ensures c.if-not-are_nodes_alike.false p (subst (λ (r : RingValue). p < r.q) c.requires.ring lp) i (subst (λ (r : RingValue). i < r.n) c.requires.ring li) w u m n;
      puts = sym (c.puts-2.ensures.world u n) ∙ sym c.if-puts.false ∙ c.puts.ensures.world w m;
      each = λ v l. all t v (subst (λ (k : ℕ). v < k) (sym (c.puts-2.ensures.world u n) ∙ c.puts-2.ensures.count) l) w u m n;
    })
    c.are_puts_alike.ensures
