-- What a chain of calls on one outside object comes to.
use Rattle.std.proofs.Common.{List, [], ◌++◌, ℕ, Bool, true, false, Option, Some, None, inl, inr, refl, sym, ap, ◌∙◌, append_assoc, append-nil, arith}
use Rattle.std.specs.Bool.{OnTrue}
use Rattle.std.specs.Option.{option_map}
use Rattle.wan_edge.specs.Ports.{GoesOn, PortTrace, Steps}
use Rattle.wan_edge.specs.Streams.{Appends, SinkSteps, SinkTrace, SourceSteps, SourceTrace, Takes, TakesFrom}

pub TakesFrom-chain : (a b c : Option (List ℕ)) (xs ys : List ℕ) → TakesFrom a xs b → TakesFrom b ys c → TakesFrom a (xs ++ ys) c
TakesFrom-chain a b None xs ys first second = first ∙ ap (option_map (λ rest. xs ++ rest)) second
TakesFrom-chain a b (Some rest) xs ys first second =
    rw append_assoc (first ∙ ap (option_map (λ rest. xs ++ rest)) second)

pub Appends-chain : (a b c : Option (List ℕ)) (xs ys : List ℕ) → Appends a xs b → Appends b ys c → Appends a (xs ++ ys) c
Appends-chain None b c xs ys first second = second ∙ ap (option_map (λ written. written ++ ys)) first
Appends-chain (Some written) b c xs ys first second =
    rw (← append_assoc) (second ∙ ap (option_map (λ written. written ++ ys)) first)

-- nothing was added
pub Appends-nothing : (told : Option (List ℕ)) → Appends told [] told
Appends-nothing None = refl
Appends-nothing (Some bytes) = ap Some (sym (append-nil bytes))

pub TakesFrom-nothing : (told : Option (List ℕ)) → TakesFrom told [] told
TakesFrom-nothing None = refl
TakesFrom-nothing (Some bytes) = refl

-- nothing was read
pub Takes-nothing : (source : SourceTrace) → Takes [] source source
Takes-nothing source = record {
  left = TakesFrom-nothing source.left;
  taken = Appends-nothing source.taken;
}

-- some bytes were read, and further ones after them
pub Takes-chain : (a b c : SourceTrace) (xs ys : List ℕ) → Takes xs a b → Takes ys b c → Takes (xs ++ ys) a c
Takes-chain a b c xs ys first second = record {
  left = TakesFrom-chain a.left b.left c.left xs ys first.left second.left;
  taken = Appends-chain a.taken b.taken c.taken xs ys first.taken second.taken;
}

-- no call of a source, and of a sink
pub source_stays : (source : SourceTrace) → SourceSteps source source
source_stays source = record {
  count = omega arith;
  left_told = refl;
  taken_told = refl;
}

pub sink_stays : (sink : SinkTrace) → SinkSteps sink sink
sink_stays sink = record {
  count = omega arith;
  told = refl;
}

-- one call more
pub source_steps : (a b c : SourceTrace) → SourceSteps a b → SourceSteps b c → SourceSteps a c
source_steps a b c first second = record {
  count = omega (arith, first.count, second.count);
  left_told = second.left_told ∙ first.left_told;
  taken_told = second.taken_told ∙ first.taken_told;
}

pub sink_steps : (a b c : SinkTrace) → SinkSteps a b → SinkSteps b c → SinkSteps a c
sink_steps a b c first second = record {
  count = omega (arith, first.count, second.count);
  told = second.told ∙ first.told;
}

pub on_true : {A : Type 0} (b : Bool) → A → OnTrue b A
on_true true a = a
on_true false a = tt

pub on_true_map : {A B : Type 0} (b : Bool) → (A → B) → OnTrue b A → OnTrue b B
on_true_map true f a = f a
on_true_map false f a = tt

-- no call of a port
pub stays : (port : PortTrace) → GoesOn port port
stays port = record {
  sent = [];
  offered = Appends-nothing port.offered;
  came = [];
  heard = Appends-nothing port.heard;
  count = omega arith;
  told = refl;
  honest = refl;
  prompt = refl;
  start = refl;
  by_rule = on_true port.honest (inl refl);
  in_order = on_true port.prompt (inl refl);
}

-- one call of a port
pub goes_once : (before now : PortTrace) (sent came : List ℕ) → Appends before.offered sent now.offered → Appends before.heard came now.heard → Steps before now → GoesOn before now
goes_once before now sent came offered heard step = record {
  sent = sent;
  offered = offered;
  came = came;
  heard = heard;
  count = step.count;
  told = step.told;
  honest = step.honest;
  prompt = step.prompt;
  start = step.start;
  by_rule = on_true_map before.honest inr step.by_rule;
  in_order = on_true_map before.prompt inr step.in_order;
}
