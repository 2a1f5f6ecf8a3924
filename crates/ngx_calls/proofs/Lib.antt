mod Arguments
mod Walking
