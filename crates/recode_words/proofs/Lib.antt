mod LimitLemmas
mod ParseLemmas
mod ParseKindLemmas
