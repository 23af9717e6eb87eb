mod FormUnits
mod FormShown
mod FormScales
mod FormPlan
mod FormBands
mod FormItems
mod FormOutcomes
mod FormChart
