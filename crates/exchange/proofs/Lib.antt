mod Forward
