-- What the walks share. Assumes `Logic`.
use seplogic.Ra.Ura.{Ura}
use prog.Model.{Model}
use types.Logic.{Logic}
use contract.Running.{Running, tables}
use sound.WpLaws.{FmC}
use denote.Triple.Table.{framed}

-- calls may leave a part of what is owned aside
abbrev pub frames : {M : Type 1} {𝓤 : Ura M} (𝓛 : Logic 𝓤) (𝓜 : Model 𝓤 𝓛.H) (𝓡 : Running 𝓤 𝓛.H 𝓜) → FmC 𝓤 𝓛.H 𝓛.laws (tables 𝓤 𝓛.H 𝓜 𝓡 𝓡.env).C
frames {𝓤 = 𝓤} 𝓛 𝓜 𝓡 = framed 𝓤 𝓛.H 𝓜 (tables 𝓤 𝓛.H 𝓜 𝓡 𝓡.env)
