use Rattle.std.proofs.Common.{inl, inr, refl}
use Rattle.bq_wire_tests.proofs.examples.histories.moments_never_fall.Goals as goal

pub returns-clause-kept : goal.returns-clause-kept
returns-clause-kept c = inl (refl, inl (refl, tt))

pub returns-clause-fallen : goal.returns-clause-fallen
returns-clause-fallen c = λ h. elim h [
  | inl a ↦ elim a.1 [ inl b ↦ absurd (let e = b.0 in cc) | inr b ↦ b ]
  | inr a ↦ elim a [ inl b ↦ b.1 | inr b ↦ b ]
]

pub returns-clause-used_twice : goal.returns-clause-used_twice
returns-clause-used_twice c = λ h. elim h [ inl a ↦ a.1 | inr a ↦ a ]
