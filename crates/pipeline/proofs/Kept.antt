-- The same ends of rings and the same bench, over two steps, and facts of values that are the same.
use Rattle.std.proofs.Common.{◌≡◌, ◌∙◌, sym, subst, ap}
use Rattle.rounds.specs.Benches.{IsSameBench}
use Rattle.rounds.specs.RoundsState.{BenchState}
use Rattle.rtrb.specs.Ring.{SameConsumer, SameProducer}
use Rattle.rtrb.specs.declared.consumer.Consumer.{Consumer}
use Rattle.rtrb.specs.declared.producer.Producer.{Producer}

module _ {T A P : Type 0} where
  pub consumer_then : (a b c : Consumer T A P) → SameConsumer a b → SameConsumer b c → SameConsumer a c
  consumer_then a b c p q = ((q.0.0 ∙ p.0.0, q.0.1 ∙ p.0.1, q.0.2 ∙ p.0.2, q.0.3 ∙ p.0.3), q.1 ∙ p.1)

  pub producer_then : (a b c : Producer T A P) → SameProducer a b → SameProducer b c → SameProducer a c
  producer_then a b c p q = ((q.0.0 ∙ p.0.0, q.0.1 ∙ p.0.1, q.0.2 ∙ p.0.2, q.0.3 ∙ p.0.3), q.1 ∙ p.1)

pub bench_then : (a b c : BenchState) → IsSameBench a b → IsSameBench b c → IsSameBench a c
bench_then a b c p q = q ∙ ap (λ (x : BenchState). record x { room = c.room }) p

pub as_three : {A B C : Type 0} (F : A → B → C → Type 0) {a a' : A} {b b' : B} {c c' : C} → a' ≡ a → b' ≡ b → c' ≡ c → F a b c → F a' b' c'
as_three F {a} {a'} {b} {b'} {c} {c'} p q r h = subst (λ x. F x b' c') (sym p) (subst (λ y. F a y c') (sym q) (subst (λ z. F a b z) (sym r) h))
