-- What holds of turns one after another, and of all that serves the clients, if it holds of each turn.
use Rattle.std.proofs.Common.{◌++◌, ◌∷◌, ◌≡◌, List, [], append-nil, arith, length, subst, sym}
use Rattle.std.proofs.lemmas.{Grind.common_steps}
use Rattle.bq_job.specs.machine.{Chain, DispatchTurn, Dispatches, EndsWaits, GivenAnswer, Machine.Machine, Serves, WaitEndTurn, forgetting}

-- A relation between a model, the answers that are given from there on, and the model after them.
-- It holds where nothing is given, and of two traces one after the other.
pub record IsTrace (So : Machine → List GivenAnswer → Machine → Type 0) : Type 0 where
  pub none : (m : Machine) → So m [] m
  pub joins : (a b c : Machine) (xs ys : List GivenAnswer) → So a xs b → So b ys c → So a (xs ++ ys) c

-- a property that is kept
pub keeping : (Q : Machine → Type 0) → IsTrace (λ m given n. Q m → Q n)
keeping Q = record { none = λ m h. h; joins = λ a b c xs ys f g h. g (f h) }

-- turns one after another
pub of_turns : {So : Machine → List GivenAnswer → Machine → Type 0} (Turns : Machine → GivenAnswer → Machine → Type 0) → IsTrace So
    → ((m : Machine) (g : GivenAnswer) (n : Machine) → Turns m g n → So m (g ∷ []) n)
    → (first : Machine) (given : List GivenAnswer) (last : Machine) → Chain Turns first given last → So first given last
of_turns {So = So} Turns t each first [] last chain = subst (So first []) (sym chain) (t.none first)
of_turns Turns t each first (g ∷ given) last chain = t.joins first chain.0 last (g ∷ []) given (each first g chain.0 chain.1)
    (of_turns Turns t each chain.0 given last chain.2)

-- A trace that holds of each turn of dispatch, of each end of a wait, and where tubes are forgotten.
pub record IsServing (So : Machine → List GivenAnswer → Machine → Type 0) : Type 0 where
  pub trace : IsTrace So
  pub dispatch : (m : Machine) (g : GivenAnswer) (n : Machine) → DispatchTurn m g n → So m (g ∷ []) n
  pub wait_end : (m : Machine) (g : GivenAnswer) (n : Machine) → WaitEndTurn m g n → So m (g ∷ []) n
  pub forgets : (m : Machine) → So m [] (forgetting m)

module _ {So : Machine → List GivenAnswer → Machine → Type 0} (s : IsServing So) where
  forgotten : (first end last : Machine) (given : List GivenAnswer) → So first given end → last ≡ forgetting end → So first given last
  forgotten first end last given so is = grind (arith, append-nil given)

  pub of_dispatches : (first : Machine) (given : List GivenAnswer) (last : Machine) → Dispatches first given last → So first given last
  of_dispatches first given last d = grind (arith, forgotten, of_turns)

  pub of_ends : (first : Machine) (given : List GivenAnswer) (last : Machine) → EndsWaits first given last → So first given last
  of_ends first given last e = grind (arith, forgotten, of_turns)

  pub of_serves : (first : Machine) (handed ended : List GivenAnswer) (last : Machine) → Serves first handed ended last
      → So first (handed ++ ended) last
  of_serves first handed ended last v = search (s.trace.joins, of_dispatches, of_ends)

-- what serving the clients leaves as it was
pub record IsSteady (m n : Machine) : Type 0 where
  pub settings : n.settings ≡ m.settings
  pub draining : n.draining ≡ m.draining
  pub many : length n.jobs ≡ length m.jobs

pub steady : IsServing (λ m given n. IsSteady m n)
steady = grind (arith, common_steps)
